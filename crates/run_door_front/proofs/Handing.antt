-- A request that is whole is posted.
use Rattle.std.proofs.Common.{◌≡◌, ◌≢◌, ◌<◌, refl, sym, ap, ◌∙◌, subst, ℕ, true, List, [], ◌∷◌, ◌++◌, length, get_or, Option, None, Some, slice_get, slice_set, MatchOption}
use Rattle.std.proofs.lemmas.Bool.{true≢false}
use Rattle.std.proofs.lemmas.Option.{slice_get_within, slice_get_read}
use Rattle.conn_future.specs.declared.stage.Stage.{Stage}
use Rattle.conn_future.specs.declared.stage.Stage.TheVariants as Stages
use Rattle.conn_future.specs.Talking.{IsTalking}
use Rattle.outside_traits.specs.Told.{WireTold}
use Rattle.outside_polling.specs.Polls.{PollTold}
use Rattle.http_connection.specs.Talking.{handed}
use Rattle.jsonrpc_text.specs.Posted.{posted}
use Rattle.jsonrpc_text.specs.declared.message.Read.{Read}
use Rattle.office_core.specs.declared.front.Posting.{Posting}
use Rattle.run_theorem.specs.Texts.{posting_of}
use Rattle.jsonrpc_postings.specs.Told.{came_for}
use Rattle.run_door_front.specs.Keeping.{ClientTold, told_of_wire, stage_at, asks, asks_there, is_so}
use Rattle.run_door_front.specs.NextSteps.{IsAsked, Answers, listing, Hands}
use Rattle.run_door_front.proofs.Lining.{asks_is}

-- what comes of a connection that is asked
abbrev Asked : Stage → Stage → Option (List ℕ) → Type 0
Asked before now result = MatchOption result ((now ≡ before) × (before ≢ Stages.Asks)) (λ _. (before ≡ Stages.Asks) × (now ≡ Stages.Owes))

-- one that asks hands something out
pub some_asked : (result : Option (List ℕ)) (before now : Stage) → result ≡ None → Asked before now result → before ≡ Stages.Asks → ⊥
some_asked result before now none h asking = (subst (Asked before now) none h).1 asking

-- and owes then
pub owes_asked : (result : Option (List ℕ)) (body : List ℕ) (before now : Stage) → result ≡ Some body → Asked before now result → now ≡ Stages.Owes
owes_asked result body before now some h = (subst (Asked before now) some h).1

-- and asked before
pub asks_asked : (result : Option (List ℕ)) (body : List ℕ) (before now : Stage) → result ≡ Some body → Asked before now result → before ≡ Stages.Asks
asks_asked result body before now some h = (subst (Asked before now) some h).0

-- what passed where it is asked
abbrev Talks : ClientTold → ClientTold → Option (List ℕ) → Type 0
Talks before now body = (first : WireTold) (bodies : List (List ℕ)) (texts : List (Option (List ℕ)))
    → IsTalking first before.seen bodies texts → IsTalking first now.seen (bodies ++ handed body) texts

-- a request comes
pub answers-so : (place : ℕ) (told before now : ClientTold) (x : Option (List ℕ)) (body slice : List ℕ) (read : Read) (p : Posting) → x ≡ Some body
    → slice ≡ body → read ≡ posted slice → p ≡ posting_of (came_for told.service read) → told ≡ before → now.service ≡ told.service
    → now.pending ≡ Some (record { place = place; read = read }) → stage_at told ≡ Stages.Asks → stage_at now ≡ Stages.Owes
    → told_of_wire now ≡ told_of_wire told → Talks told now x
    → Answers place p before now
answers-so place told before now x body slice read p is piece says posts same service pending asked stage wire talks =
    let sent : read ≡ posted body = says ∙ ap posted piece in
    subst (λ l. Answers place p l now) same (record {
      body = body;
      posts = posts ∙ ap (λ r. posting_of (came_for told.service r)) sent;
      asked = record {
        asked = asked;
        service = service;
        pending = pending ∙ ap (λ r. Some (record { place = place; read = r })) sent;
        stage = stage;
        waits = ap (λ (w : PollTold). w.waits) wire;
        row = ap (λ (w : PollTold). w.in_a_row) wire;
        longest = ap (λ (w : PollTold). w.longest) wire;
        talks = subst (Talks told now) is talks;
      };
    })

-- ---- by the number of the connection

asking_there : (links : List ClientTold) (n : ℕ) (o : Option ClientTold) → slice_get links n ≡ o → is_so asks o ≡ true
    → (l : ClientTold) × (slice_get links n ≡ Some l) × (asks l ≡ true)
asking_there links n None is e = absurd (true≢false (sym e))
asking_there links n (Some l) is e = (l, is, e)

asking_at : (links : List ClientTold) (n : ℕ) → asks_there links n ≡ true → (l : ClientTold) × (slice_get links n ≡ Some l) × (asks l ≡ true)
asking_at links n e = asking_there links n (slice_get links n) refl e

pub asking_within : (links : List ClientTold) (n : ℕ) → asks_there links n ≡ true → n < length links
asking_within links n e = let at = asking_at links n e in slice_get_within links n at.0 at.1

-- the connection of the number
pub asking_is : (links : List ClientTold) (n : ℕ) (x : ClientTold) → asks_there links n ≡ true → x ≡ get_or links n x
    → (slice_get links n ≡ Some x) × (stage_at x ≡ Stages.Asks)
asking_is links n x e value =
    let there : slice_get links n ≡ Some x = slice_get_read links (length links) n x refl (asking_within links n e) value in
    (there, asks_is (stage_at x) (ap (is_so asks) (sym there) ∙ e))

pub hands-so : (links : List ClientTold) (traffics ts : List ℕ) (n place : ℕ) (l later : ClientTold) (p : Posting) → asks_there links n ≡ true → l ≡ get_or links n l
    → place ≡ length traffics → Answers place p l later → ts ≡ traffics ++ n ∷ [] → Hands n p (listing links traffics) (listing (slice_set links n later) ts)
hands-so links traffics ts n place l later p asking value numbered a more =
    let at = asking_is links n l asking value in
    record {
      body = a.body;
      one = record {
        link = l;
        later = later;
        there = at.0;
        asking = at.1;
        asked = subst (λ k. IsAsked k a.body l later) numbered a.asked;
        set = refl;
      };
      posting = a.posts;
      kept = more;
    }

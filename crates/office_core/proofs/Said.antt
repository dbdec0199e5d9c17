-- A legal entry accepts a message exactly where its reply says so.
use Rattle.std.proofs.Common.{◌≡◌, ℕ, Bool, true, false, length, refl, sym, ap, ◌∙◌, Option, None, Some, option_map, option_and_then}
use Rattle.jolie_trees.specs.Data.{Tree}
use Rattle.behaviour_tree.specs.declared.words.Reason.TheVariants as reason
use Rattle.reqresp_book.specs.declared.origin.Origin.{Origin}
use Rattle.office_core.specs.declared.history.Act.{Act}
use Rattle.office_core.specs.declared.history.Act.TheVariants as act
use Rattle.office_core.specs.declared.post.Posted.{Posted}
use Rattle.office_core.specs.Limits.{Setting}
use Rattle.office_core.specs.Past.{Message, Past}
use Rattle.office_core.specs.Accepted.{handed_in, origin_of, message_on, message_of}
use Rattle.office_core.specs.Route.{Way, to_session, to_new, refused_for, Asked, asked_of, is_full, admitted, route, post_reply, send_reply}
use Rattle.office_core.specs.Legal.{placed, replied}
use Rattle.office_core.specs.Laws.{number_said, AcceptsByReply}

-- the number of a message that goes a way
abbrev numbered : Past → Way → Option ℕ
numbered past (refused_for why) = None
numbered past way = Some (length past.messages)

-- as a post says it
post_says : (past : Past) (j i : ℕ) (q : Posted) (way : Way)
    → number_said (act.Post j i q (post_reply past way)) ≡ numbered past way
post_says past j i q (to_session s) = refl
post_says past j i q to_new = refl
post_says past j i q (refused_for why) = refl

-- as a send says it
send_says : (past : Past) (k port op : ℕ) (v : Tree) (wants : Bool) (way : Way)
    → number_said (act.Send k port op v wants (send_reply past way)) ≡ numbered past way
send_says past k port op v wants (to_session s) = refl
send_says past k port op v wants to_new = refl
send_says past k port op v wants (refused_for why) = refl

-- the number that a message would have
abbrev number_of : Past → Option Message → Option ℕ
number_of past m = option_map (λ x. length past.messages) m

-- a message that goes a way is accepted where the way leads to a session
on_way : (w : Setting) (past : Past) (from : Origin) (a : Asked) (way : Way)
    → numbered past way ≡ number_of past (message_on w past from a way)
on_way w past from a (to_session s) = refl
on_way w past from a to_new = refl
on_way w past from a (refused_for why) = refl

-- the way of a message, by whether there is room and what it asks for
abbrev way_for : Setting → Past → Bool → Option Asked → Way
way_for w past full o = elim full [ true ↦ refused_for reason.RunFull | false ↦ admitted w past o ]

-- what is handed in is accepted where its way leads to a session
by_way : (w : Setting) (past : Past) (from : Origin) (full : Bool) (o : Option Asked)
    → numbered past (way_for w past full o)
    ≡ number_of past (option_and_then (λ a. message_on w past from a (way_for w past full o)) o)
by_way w past from true None = refl
by_way w past from false None = refl
by_way w past from full (Some a) = on_way w past from a (way_for w past full (Some a))

-- the same of its route
by_route : (w : Setting) (past : Past) (from : Origin) (q : Posted)
    → numbered past (route w past q) ≡ number_of past (message_of w past from q)
by_route w past from q = by_way w past from (is_full w past q.value) (asked_of w q)

-- of what a session sends
by_place : (w : Setting) (past : Past) (from : Origin) (k port op : ℕ) (v : Tree) (wants : Bool) (o : Option Posted)
    → number_said (act.Send k port op v wants (placed w past o)) ≡ number_of past (option_and_then (message_of w past from) o)
by_place w past from k port op v wants None = refl
by_place w past from k port op v wants (Some q) =
    send_says past k port op v wants (route w past q) ∙ by_route w past from q

-- a call with the reply that the office gives says the same as that call
as_replied : (c d : Act) → Some d ≡ Some c → number_said c ≡ number_said d
as_replied c d e = sym (ap (λ o. option_and_then number_said o) e)

-- whichever call it is
by_act : (w : Setting) (past : Past) (s : ℕ) (c : Act) → replied w past s c ≡ Some c
    → number_said c ≡ number_of past (option_and_then (message_of w past (origin_of s c)) (handed_in w past s c))
by_act w past s (act.Post j i q r) e =
    as_replied (act.Post j i q r) (act.Post j i q (post_reply past (route w past q))) e
    ∙ post_says past j i q (route w past q) ∙ by_route w past (origin_of s (act.Post j i q r)) q
by_act w past s (act.Send k port op v wants r) e =
    let o = handed_in w past s (act.Send k port op v wants r) in
    as_replied (act.Send k port op v wants r) (act.Send k port op v wants (placed w past o)) e
    ∙ by_place w past (origin_of s (act.Send k port op v wants r)) k port op v wants o
by_act w past s (act.Adopt d) e = refl
by_act w past s (act.Take n) e = refl
by_act w past s (act.Bind v x r) e = refl
by_act w past s (act.Reply n o) e = refl
by_act w past s (act.Answer k o) e = refl
by_act w past s act.End e = refl
by_act w past s (act.Collect n o) e = refl
by_act w past s (act.Fetch t k) e = refl
by_act w past s (act.Answered t k o) e = refl
by_act w past s act.Close e = refl
by_act w past s act.Stop e = refl

-- a legal entry accepts a message exactly where its reply says so
pub accepts_by_reply : AcceptsByReply
accepts_by_reply w past e legal = by_act w past e.actor e.act legal.reply

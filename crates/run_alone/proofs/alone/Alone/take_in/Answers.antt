-- A posting is taken in.
use Rattle.std.proofs.Common.{refl, ap, ◌∙◌}
use Rattle.behaviour_tree.specs.PartsView.{parts_of}
use Rattle.run_posts.specs.CallStates.{waits}
use Rattle.run_alone.proofs.Looks.{tells_under}
use Rattle.run_alone.proofs.Picking.{goes_taken}
use Rattle.run_alone.proofs.Taking.{received_then, open_posted, open_rested, settled_posted, taken_between, taken_passed}
use Rattle.run_alone.proofs.Completing.{completed_taken}
use Rattle.run_alone.proofs.alone.Alone.take_in.Goals as goal

pub sweep-requires-clause-settled : goal.sweep-requires-clause-settled
sweep-requires-clause-settled g c =
    settled_posted _ _ c.args.self.now.pendings.postings c.args.posting.now.calls c.in_ok-post.ensures.posted c.in_ok-post.ensures.work.team.legal c.requires.between.settled

pub sweep-requires-clause-received : goal.sweep-requires-clause-received
sweep-requires-clause-received g c =
    received_then _ _ _ c.args.self.now.pendings.postings c.args.posting.now.calls c.in_ok-post.ensures.posted c.in_ok-post.ensures.work.team.legal
    c.requires.between

pub collect_all-requires-clause-collectable : goal.collect_all-requires-clause-collectable
collect_all-requires-clause-collectable g c =
    let b = c.requires.between in
    (open_rested _ _ _ _ _ c.in_ok-unfailed.ensures.swept c.in_ok-unfailed.ensures.work.team.legal
    (open_posted _ _ _ _ c.args.self.now.pendings.postings c.args.posting.now _ _ b.count c.in_ok-post.ensures.posted c.in_ok-post.ensures.waiting
    c.in_ok-post.ensures.work.team.legal b.opens)).uncollected

pub returns-clause-between : goal.returns-clause-between
returns-clause-between g c =
    let work = c.in_ok-collect_all.ensures.work c.in_ok-unfailed.ensures.work in
    taken_between c.args.posting.now c.in_ok-post.ensures.posted c.in_ok-post.ensures.waiting c.in_ok-unfailed.ensures.swept
    c.in_ok-unfailed.ensures.still c.in_ok-collect_all.ensures.collected c.in_ok-collect_all.ensures.waiting
    c.in_ok-tell_finished.ensures.waiting c.requires.work.team c.in_ok-post.ensures.work.team work.team c.requires.between
    (c.in_ok-tell_finished.ensures.postings ∙ c.in_ok-collect_all.ensures.postings ∙ c.in_ok-post.ensures.postings)
    c.in_ok-unfailed.ensures.quiet

pub returns-clause-completed : goal.returns-clause-completed
returns-clause-completed g c =
    let work = c.in_ok-collect_all.ensures.work c.in_ok-unfailed.ensures.work in
    completed_taken (waits c.post.new.self) c.args.self.now.pendings.postings c.args.posting.now.calls c.in_ok-post.ensures.posted c.in_ok-unfailed.ensures.swept
    c.in_ok-collect_all.ensures.collected c.in_ok-post.ensures.work.team.legal work.team.legal c.in_ok-unfailed.ensures.completed

pub returns-clause-passed : goal.returns-clause-passed
returns-clause-passed g c =
    let work = c.in_ok-collect_all.ensures.work c.in_ok-unfailed.ensures.work in
    let exchanged = g.F.Front.exchanged in
    let parts = parts_of c.args.self.now.cells.program in
    let program = ap parts_of
    (c.program.ensures ∙ c.in_ok-collect_all.ensures.program ∙ c.in_ok-unfailed.ensures.program ∙ c.in_ok-post.ensures.program) in
    λ first before so brings.
    taken_passed c.args.posting.now c.in_ok-post.ensures.posted c.in_ok-post.ensures.waiting c.in_ok-unfailed.ensures.swept
    c.in_ok-unfailed.ensures.still c.in_ok-collect_all.ensures.collected c.in_ok-collect_all.ensures.waiting
    c.in_ok-tell_finished.ensures.waiting c.requires.work.team c.in_ok-post.ensures.work.team work.team c.requires.between
    (exchanged parts first c.sweep.new.front) (exchanged parts first c.tell_finished.new.front) before
    (c.in_ok-tell_finished.ensures.postings ∙ c.in_ok-collect_all.ensures.postings ∙ c.in_ok-post.ensures.postings)
    brings (c.in_ok-unfailed.ensures.noted parts first before so brings.mutes)
    (λ stopped mid now. c.in_ok-unfailed.ensures.halted stopped parts first mid now)
    (λ mid now expected.
    tells_under exchanged c.sweep.new.front c.tell_finished.new.front _ _ program c.in_ok-tell_finished.ensures.told first mid now
    expected)

pub returns-clause-budget : goal.returns-clause-budget
returns-clause-budget g c =
    c.in_ok-collect_all.ensures.collected.budget ∙ c.in_ok-unfailed.ensures.swept.budget ∙ c.in_ok-post.ensures.posted.budget

pub returns-clause-work : goal.returns-clause-work
returns-clause-work g c = c.in_ok-collect_all.ensures.work c.in_ok-unfailed.ensures.work

pub returns-clause-count : goal.returns-clause-count
returns-clause-count g c =
    c.in_ok-tell_finished.ensures.postings ∙ c.in_ok-collect_all.ensures.postings ∙ c.in_ok-post.ensures.postings

pub returns-clause-goes : goal.returns-clause-goes
returns-clause-goes g c =
    goes_taken (waits c.post.new.self) c.args.self.now.pendings.postings c.args.posting.now.calls c.in_ok-post.ensures.posted c.in_ok-unfailed.ensures.swept
    c.in_ok-collect_all.ensures.collected

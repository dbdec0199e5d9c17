-- What the first thread works with may go to it, field by field.
use denote.Param.Send.{param_send}
use Rattle.office_turn.proofs.Sending.{office_sync}
use Rattle.test_sharing.proofs.Sending.{caller_send, queue_sync}
use Rattle.test_sharing.proofs.copies.in_two_threads.Lts as lts
use Rattle.test_sharing.proofs.copies.in_two_threads.Goals as goal

pub join-taken-requires-send-F : goal.join-taken-requires-send-F
join-taken-requires-send-F g c κs ls =
    param_send 1 (lts.arg-4-1 g.row.N g.row.R g.N.laws g.R.laws g.N.Naming g.N.Naming-dict g.R.Threads g.R.Threads-dict g.R.Wait g.R.Wait-dict κs) (record {
      owned = λ x vs us. (
        tt,
        (
          (tt, c.type_bounds.sync-R.shared x.0.now x.0.ref_ptr.0 x.0.ref_ptr.1 κs.1.1.1.1.1.1.0),
          (
            (tt, (office_sync g.row.N g.N.Naming).shared x.1.now x.1.ref_ptr.0 x.1.ref_ptr.1 κs.1.1.1.1.1.1.1.0),
            (
              (tt, (queue_sync g.row.N g.N.Naming).shared x.2.now x.2.ref_ptr.0 x.2.ref_ptr.1 κs.1.1.1.1.1.1.1.1.0),
              ((caller_send g.row.N g.N.Naming).owned x.3 us.1.1.1.0, tt),
            ),
          ),
        ),
      );
      leaving = λ k x w. (tt, (tt, (tt, ((tt, tt), tt))));
    })

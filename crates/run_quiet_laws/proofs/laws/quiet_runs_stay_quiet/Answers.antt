use Rattle.std.proofs.Common.{refl}
use Rattle.run_quiet_laws.proofs.Acting.{look_says}
use Rattle.run_quiet_laws.proofs.Leaving.{others_leave}
use Rattle.run_quiet_laws.proofs.Quiet.{no_more}
use Rattle.run_quiet_laws.proofs.Since.{cannot_act_adoptions}
use Rattle.run_quiet_laws.proofs.Still.{still_by_turn}
use Rattle.run_quiet_laws.proofs.Within.{births_within}
use Rattle.run_quiet_laws.proofs.laws.quiet_runs_stay_quiet.Goals as goal

pub returns : goal.returns
returns c = record {
  looks = λ a es now b alone k may. look_says {old = now} {new = now} alone k refl refl refl may;
  adoptions = λ w h more s es all none. cannot_act_adoptions w h s es more all none;
  nothing = λ a budget n es old new event ss alone quiet there left k happened.
      no_more {old = old} {new = new} alone quiet there left k happened;
  still = λ a budget n es old new event ss ss' alone k happened there left changed still.
      still_by_turn {was = old} {now = new} alone k happened there left changed still;
  others = λ w h e s es legal b none can. others_leave w h e s es legal b none can;
  births = births_within;
}

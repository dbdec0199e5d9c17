use Rattle.office_core.proofs.Sent.{calls_are_messages}
use Rattle.office_core.proofs.laws.legal_histories_send_messages.Goals as goal

pub returns : goal.returns
returns c = record {
  sent = λ w h i n d legal there went.
      let s = calls_are_messages w h legal i n d there went in (s.message, (s.there, s.from));
}

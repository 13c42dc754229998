use Rattle.std.proofs.Common.{refl}
use Rattle.dav_io.specs.Counts.{Rose}
use Rattle.dav_model.specs.Head.{refusal}
use Rattle.dav_model.proofs.Framing.{refused_framed}
use Rattle.dav_model.proofs.RightReplies.{failed_by_fault, refusal_announces, refusal_sound, right_framed, right_sound}
use Rattle.dav_model.proofs.laws.right_replies_are_framed.Goals as goal

pub returns : goal.returns
returns c = record {
  framed = λ q shown before after. right_framed q shown (Rose before after);
  sound = λ q shown before after. right_sound q shown (Rose before after);
  failed = λ q shown before after. failed_by_fault q shown (Rose before after);
  refused = λ target fields status close. (
    refused_framed target (refusal fields status close) fields status close refl,
    refusal_sound fields status close (refusal fields status close) refl,
    refusal_announces fields status close,
  );
}

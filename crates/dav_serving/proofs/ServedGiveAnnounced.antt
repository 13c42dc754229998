-- Each exchange of a run gives what it announces.
use Rattle.dav_model.specs.Play.{Stage}
use Rattle.std.proofs.Common.{ℕ, List, [], ◌∷◌, Bool, Ok, ap, ◌∙◌, decimal}
use Rattle.std.specs.List.{AllByRecursion}
use Rattle.dav_wire.specs.Messages.{Message}
use Rattle.dav_io.specs.Outside.{Stream}
use Rattle.dav_model.specs.declared.answer.Answer.TheVariants.{End}
use Rattle.dav_model.specs.Rules.{Knowledge}
use Rattle.dav_model.specs.Trail.{Point}
use Rattle.dav_serving.specs.Bodies.{GivesAnnounced}
use Rattle.dav_serving.specs.Exchange.{Exchange, IsOf, steps_of, answers_of}
use Rattle.dav_serving.specs.Serving.{Setup, Chain, Alike, Serving, ready}
use Rattle.dav_serving.specs.Stages.{Outside, PlayedOn}
use Rattle.dav_serving.proofs.BodiesAreDelimited.{announced_wire, counted_bytes, tells_end}
use Rattle.dav_serving.proofs.ExchangesAreGiven.{announced_length, announced_none}
use Rattle.dav_serving.proofs.PiecesAreSome.{is_alone, nonempty_pieces, read_back}

gives_announced : (shown : _) (message : Message) (a b : Stage) (x : Exchange) → IsOf shown message x → PlayedOn a (steps_of x) (answers_of x) (Ok tt) b → GivesAnnounced a.playing.rules x
gives_announced shown message a b x is r = record {
  counted = λ own value says. announced_length a b x r value own says ∙ ap decimal (counted_bytes x.pieces);
  none = announced_none a b x r;
  written = announced_wire x;
  bodiless = is_alone a b x r;
  full = nonempty_pieces a b x End r;
  chunked = λ chunked short behind. read_back a b x behind r chunked short;
  tells = tells_end shown message x is;
}

all_give : (setup : Setup) (knows : Knowledge) (s : Point) (b : Stage) (messages : List Message) (xs : List Exchange) → Chain setup.rules (ready setup.rules knows s) xs b → Alike setup messages xs
    → AllByRecursion (GivesAnnounced setup.rules) xs
all_give setup knows s b messages [] chain alike = tt
all_give setup knows s b [] (x ∷ xs) chain alike = elim alike [ ]
all_give setup knows s b (message ∷ messages) (x ∷ xs) (m, played, chain) (is, alike) =
    (gives_announced setup.shown message (ready setup.rules knows s) m x is played, all_give setup m.playing.knows m.at b messages xs chain alike)

pub served_give : (setup : Setup) (closed : Bool) (before : Outside) (source : Stream) (held : List ℕ) (xs : List Exchange) (last : Stage)
    → Serving setup closed before source held xs last → AllByRecursion (GivesAnnounced setup.rules) xs
served_give setup closed before source held xs last v = all_give setup setup.knows before.disk last v.messages xs v.played v.alike

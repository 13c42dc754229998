use Rattle.std.proofs.Common.{◌≤◌, ℕ, ap, length, take, sym, subst, refl, ◌∙◌}
use Rattle.dav_get.specs.Bodies.{left_of, next_most_of}
use Rattle.dav_get.proofs.Touching.{text_here}
use Rattle.dav_get.proofs.BodyRight.{polls_right, same_piece}
use Rattle.dav_get.proofs.body.GetBody.poll_piece.Goals as goal

pub returns-in-Text-index : goal.returns-in-Text-index
returns-in-Text-index g c =
    let text = text_here c.step.new.self.parts.items c.in-Text.at c.index.result.now c.in-Text-index.text c.in-Text.ensures.inside.0 c.index.ensures c.in-Text-index.is in
    let same = c.as_slice.ensures ∙ sym text in
    let P : ℕ → Type 0 = λ n. length c.as_slice.result.now ≤ next_most_of (left_of c.args.self.now) n in
    let bound : P (length c.args.self.now.buffer.items) = rw same c.in-Text.ensures.done.bound in (
      (refl, (λ _. tt), same_piece g.F.DavFile.view _ _ c.args.self.now c.step.new.self _ _ same (polls_right g.F.DavFile.view _ _ _ _ _ c.requires c.in-Text.ensures.done)),
      record { ends = tt; bound = subst P (sym c.args.self.now.buffer.ok.0) bound; loan = c.step.ensures.loan },
    )

pub returns-in-Read : goal.returns-in-Read
returns-in-Read g c =
    let same = ap (take c.in-Read.count) c.deref.ensures.value in
    let P : ℕ → Type 0 = λ n. length (take c.in-Read.count c.deref.result.now) ≤ next_most_of (left_of c.args.self.now) n in
    let bound : P (length c.args.self.now.buffer.items) = rw same c.in-Read.ensures.done.bound in (
      (
        refl,
        (λ _. tt),
        same_piece g.F.DavFile.view _ _ c.args.self.now c.step.new.self _ _ same
            (polls_right g.F.DavFile.view _ _ _ _ _ c.requires c.in-Read.ensures.done),
      ),
      record { ends = tt; bound = subst P (sym c.args.self.now.buffer.ok.0) bound; loan = c.step.ensures.loan },
    )

pub returns-in-End : goal.returns-in-End
returns-in-End g c = (
  (refl, (λ _. tt), polls_right g.F.DavFile.view _ _ _ _ _ c.requires c.in-End.ensures.done),
  record { ends = tt; bound = tt; loan = c.step.ensures.loan },
)

pub returns-in-Broken : goal.returns-in-Broken
returns-in-Broken g c = (
  (refl, (λ _. tt), polls_right g.F.DavFile.view _ _ _ _ _ c.requires c.in-Broken.ensures.done),
  record { ends = tt; bound = tt; loan = c.step.ensures.loan },
)

use Rattle.std.proofs.Common.{◌≡◌, [], ◌∷◌, ◌+◌, ◌++◌, drop, sym, ap, ◌∙◌, append_assoc, append-nil}
use Rattle.std.proofs.Math.ListN.{drop_of_length-le}
use Rattle.dav_upload.specs.Sweeping.{left_before}
use Rattle.dav_upload.proofs.PathsTaken.{left_then, next_in}
use Rattle.dav_upload.proofs.leftovers.paths_before.Goals as goal

pub members-preserved : goal.members-preserved
members-preserved c =
    let x = c.member-item.result in
    let rest = drop (c.members.member-index + 1) c.args.members.now in
    let here : drop c.members.member-index c.args.members.now ≡ x ∷ rest = next_in c.args.members.now c.members.member-index x c.members-test.true c.member-item.is in
    record {
      rest = ap (λ ps. ps ++ left_before c.args.limit c.args.dir.now rest) c.in_ok-add_left.ensures
          ∙ (append_assoc c.members.paths.items (left_before c.args.limit c.args.dir.now (x ∷ [])) (left_before c.args.limit c.args.dir.now rest)
          ∙ (ap (λ ps. c.members.paths.items ++ ps) (left_then c.args.limit c.args.dir.now x rest ∙ ap (left_before c.args.limit c.args.dir.now) (sym here)) ∙ c.members.invariant.rest));
    }

pub returns : goal.returns
returns c =
    sym (append-nil c.members.paths.items)
    ∙ (ap (λ ms. c.members.paths.items ++ left_before c.args.limit c.args.dir.now ms) (sym (drop_of_length-le c.args.members.now c.members-test.false)) ∙ c.members.invariant.rest)

-- Forgetting what nobody holds leaves the bytes of what somebody holds.
use Rattle.std.specs.Prelude.{◌≡◌, ◌⊎◌, ℕ, List, true, Option, Some}
use Rattle.std.specs.Option.{option_map}
use Rattle.std.proofs.Common.{refl, sym, ap, subst, inl, inr, ◌∙◌}
use Rattle.dav_core.specs.declared.tree.Row.{Row}
use Rattle.dav_core.specs.World.{World, OpenFile, Holds, SameHeld, is_numbered, number_of}
use Rattle.dav_core.specs.Unchanged.{SameBesidesOpens}

-- a world that forgot nothing
pub same_held : (v w : World) → w ≡ v → SameHeld v w
same_held v w e = rw e (record { same = refl; files = λ number held. refl })

abbrev number_open : Option OpenFile → Option ℕ
number_open o = option_map (λ x. x.number) o

-- what is held was held before, where the tree is the same and each open file was held
holds_from : (v w : World) (number : ℕ) → w.tree ≡ v.tree → ((h : ℕ) → number_of w h ≡ Some number → Holds v number) → Holds w number → Holds v number
holds_from v w number tree opens (inl row) = inl (subst (λ (t : List Row). is_numbered t number ≡ true) tree row)
holds_from v w number tree opens (inr (h, at)) = opens h at

-- what nobody holds was forgotten
pub held_besides : (v w : World) → SameHeld v w → SameBesidesOpens v w
held_besides v w same = record {
  tree = ap (λ (x : World). x.tree) same.same;
  files = λ number held.
      (holds_from v w number (ap (λ (x : World). x.tree) same.same) (λ h at. inr (h, ap (λ (x : World). number_open (x.opens h)) (sym same.same) ∙ at)) held, same.files number held);
  greatest = ap (λ (x : World). x.greatest) same.same;
  latest = ap (λ (x : World). x.latest) same.same;
  script = ap (λ (x : World). x.script) same.same;
}

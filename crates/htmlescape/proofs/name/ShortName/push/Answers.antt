use Rattle.std.proofs.Common.{◌≡◌, ◌⊎◌, ◌≤◌, false, rules, arith, inl, inr, sym, ◌∙◌}
use Rattle.std.specs.Char.{is_ascii}
use Rattle.std.proofs.lemmas.Bool.Decides.{nat_tests}
use Rattle.htmlescape.proofs.Steps.{name_lost}
use Rattle.htmlescape.proofs.name.ShortName.push.Goals as goal
use Rattle.htmlescape.proofs.name.ShortName.push.Goals.{else-self-lt-LONGEST-via-then-self-lt-LONGEST+else-is_ascii, else-self-lt-LONGEST-via-else-self-lt-LONGEST}

not_ascii : (c : Rattle.std.proofs.Common.ℕ) → is_ascii c ≡ false → 128 ≤ c
not_ascii c e = grind (arith, nat_tests)

pub returns : goal.returns
returns c = λ name k. record {
  known = λ h. absurd (omega arith);
  size = λ h. absurd (omega arith);
  lost = λ h. name_lost c.args.self.count name c.args.c k.size k.lost (elim c.else-self-lt-LONGEST.branch [
    | else-self-lt-LONGEST-via-then-self-lt-LONGEST+else-is_ascii w ↦ inr (not_ascii c.args.c (sym w.is_ascii.ensures ∙ w.if-is_ascii.false))
    | else-self-lt-LONGEST-via-else-self-lt-LONGEST w ↦ inl (omega arith)
  ]);
}

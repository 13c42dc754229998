-- A file that is filled twice, one after the other, is filled once with the last bytes.
-- Headline: `filled_twice`.
use Rattle.std.proofs.Common.{◌≡◌, ◌==◌, inl, inr, ℕ, List, [], ◌∷◌, map, Bool, true, false, Some, refl, sym, ap, ap₂, subst, ◌∙◌, arith}
use Rattle.dav_core.specs.declared.time.FileTime.{FileTime}
use Rattle.dav_core.specs.declared.tree.Row.{Row}
use Rattle.dav_core.specs.Edits.{Edited, fills, timed_number}
use Rattle.dav_core.specs.World.{Holds, World, bytes_of}
use Rattle.dav_core.proofs.TimesLemmas.{not_after_then}
use Rattle.dav_core.proofs.UnchangedLemmas.{other_keys, put_other}
use Rattle.dav_core.proofs.EditsLemmas.{edit_then}
use Rattle.dav_walks.proofs.trees.EditsJoined.{filled_after, filled_bytes, held_filled, later_than, put_like}

row_twice : (number : ℕ) (t u : FileTime) (row : Row) → timed_number number u (timed_number number t row) ≡ timed_number number u row
row_twice number t u row = by (row.number == number) refl
  where
    by : (b : Bool) → (row.number == number) ≡ b → timed_number number u (timed_number number t row) ≡ timed_number number u row
    by true e = rw e (rw e refl)
    by false e = rw e (rw e refl)

pub rows_twice : (number : ℕ) (t u : FileTime) (rows : List Row) → map (timed_number number u) (map (timed_number number t) rows) ≡ map (timed_number number u) rows
rows_twice number t u [] = refl
rows_twice number t u (row ∷ rows) = ap₂ ◌∷◌ (row_twice number t u row) (rows_twice number t u rows)

-- The last bytes differ from the first ones of all, or are those of the first filling.
pub filled_twice : (number : ℕ) (x y : List ℕ) (a b c : World) → Holds b number → (y ≡ bytes_of a number → y ≡ x) → Edited (fills number x) a b → Edited (fills number y) b c → Edited (fills number y) a c
filled_twice number x y a b c held same (inl (is, kept)) second = filled_after number y a b c held kept second
filled_twice number x y a b c held same (inr first) (inl (is, kept)) =
    subst (λ z. Edited (fills number z) a c) (sym (is ∙ filled_bytes number x a b (inr first) held)) (edit_then (fills number x) a b c (inr first) kept)
filled_twice number x y a b c held same (inr (other, t, new, made)) (inr (more, u, later, q)) =
    inr (
      (λ e. more (same e ∙ sym (filled_bytes number x a b (inr (other, t, new, made)) held))),
      u,
      record { later = later_than u.secs b.latest.secs a.latest.secs u.nanos b.latest.nanos a.latest.nanos later.later made.latest.0 made.latest.1; used = later.used; nanos = later.nanos },
      record {
        tree = q.tree ∙ (ap (map (timed_number number u)) made.tree ∙ rows_twice number t u a.tree);
        files = λ n h.
            (let back = q.files n h in
            let first = made.files n (held_filled number n y u b back.0) in (
              inl (held_filled number n x t a first.0),
              back.1 ∙ put_like (n == number) number n (Some (record { bytes = y; time = u })) b.files a.files refl
                  (λ e. first.1 ∙ put_other number n (Some (record { bytes = x; time = t })) a.files (other_keys n number e)),
            ));
        script = q.script ∙ made.script;
        greatest = (let l = made.greatest in let m = q.greatest in omega arith);
        latest = not_after_then a.latest b.latest c.latest made.latest q.latest;
      },
    )

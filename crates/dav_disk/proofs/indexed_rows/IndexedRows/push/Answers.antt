use Rattle.std.proofs.Common.{◌≡◌, ◌++◌, ◌∷◌, [], length, ap, ◌∙◌, sym, arith}
use Rattle.dav_disk.proofs.Indexed.{row_indexed, root_indexed}
use Rattle.dav_disk.proofs.indexed_rows.IndexedRows.push.Goals as goal
use Rattle.dav_disk.proofs.indexed_rows.IndexedRows.push.Goals.{in-Some+in_ok-add, in_default}

pub invariant_of-self-2 : goal.invariant_of-self-2
invariant_of-self-2 c = elim c.match-split_last.branch [
  | in-Some+in_ok-add w ↦ (
      let old = c.self.inside.items.items in
      let more : c.put_row.new.rows.items ≡ old ++ c.args.row ∷ [] =
      c.put_row.ensures ∙ ap (λ i. i.items.items ++ c.args.row ∷ []) w.self-inside-is ∙ ap (λ rows. rows ++ c.args.row ∷ []) c.in_ok-reserve.ensures.items in
      let size = ap length c.in_ok-reserve.ensures.items in
      let place : w.len.result ≡ length old = omega (arith, c.reserve.new.self.ok, size, w.len.ensures) in
      rw w.self-inside-is (row_indexed c.self.inside.places w.add.new.self old c.put_row.new.rows.items c.args.row w.in-Some.dir.now w.in-Some.name.now w.len.result
      c.self.invariant w.in_ok-add.ensures.ok (sym c.as_slice.ensures.value ∙ w.in-Some.ensures.cases.0) place more))
  | in_default w ↦ (
      let old = c.self.inside.items.items in
      let more : c.put_row.new.rows.items ≡ old ++ c.args.row ∷ [] =
      c.put_row.ensures ∙ ap (λ i. i.items.items ++ c.args.row ∷ []) w.self-inside-is ∙ ap (λ rows. rows ++ c.args.row ∷ []) c.in_ok-reserve.ensures.items in
      rw w.self-inside-is (root_indexed c.self.inside.places old c.put_row.new.rows.items c.args.row c.self.invariant (ap length (sym c.as_slice.ensures.value) ∙ w.in_default.ensures.cases) more))
]

use Rattle.std.proofs.Common.{◌≡◌, None, Some, sym, ap, ◌∙◌, arith}
use Rattle.dav_core.specs.Tree.{row_at}
use Rattle.dav_disk.specs.Places.{place_of}
use Rattle.dav_disk.proofs.Indexed.{place_below, place_found, place_none}
use Rattle.dav_disk.proofs.indexed_rows.IndexedRows.find.Goals as goal

pub index-requires : goal.index-requires
index-requires c =
    let at : place_of c.args.path.now c.self.inside.items.items ≡ Some c.in-Some-place.place =
    ap (λ p. place_of p c.self.inside.items.items) c.in-Some.ensures.cases.0 ∙ sym (c.self.invariant.places c.in-Some.dir.now c.in-Some.name.now) ∙ sym c.place.ensures ∙ c.in-Some-place.is in
    let below = place_below c.self.inside.items.items c.args.path.now c.in-Some-place.place at in
    omega (arith, c.self.inside.items.ok)

pub returns-in-Some-place : goal.returns-in-Some-place
returns-in-Some-place c =
    let at : place_of c.args.path.now c.self.inside.items.items ≡ Some c.in-Some-place.place =
    ap (λ p. place_of p c.self.inside.items.items) c.in-Some.ensures.cases.0 ∙ sym (c.self.invariant.places c.in-Some.dir.now c.in-Some.name.now) ∙ sym c.place.ensures ∙ c.in-Some-place.is in
    ap Some c.index.ensures ∙ sym (place_found c.self.inside.items.items c.args.path.now c.in-Some-place.place c.index.result.now at) ∙ ap (λ rows. row_at rows c.args.path.now) c.self.view_is

pub returns-in-None : goal.returns-in-None
returns-in-None c =
    let at : place_of c.args.path.now c.self.inside.items.items ≡ None =
    ap (λ p. place_of p c.self.inside.items.items) c.in-Some.ensures.cases.0 ∙ sym (c.self.invariant.places c.in-Some.dir.now c.in-Some.name.now) ∙ sym c.place.ensures ∙ c.in-None.is in
    sym (place_none c.self.inside.items.items c.args.path.now at) ∙ ap (λ rows. row_at rows c.args.path.now) c.self.view_is

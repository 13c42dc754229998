-- What is held of a file leaves it open as it was opened, but for its bytes: in every run, also where tags lie.
use Rattle.std.specs.Prelude.{◌≡◌, ◌+◌, ◌==◌, ◌&&◌, ◌⊎◌, ℕ, List, Option, None, Some, Result, Ok, refl}
use Rattle.std.specs.Option.{option_map}
use Rattle.std.proofs.Common.{ap, ◌∙◌, inl, inr, arith}
use Rattle.dav_io.specs.declared.failure.NoMemory.{NoMemory}
use Rattle.dav_io.proofs.ToldLemmas.{told_after}
use Rattle.dav_store.specs.Standing.{Seen}
use Rattle.dav_store.specs.View.{View, seen_in}
use Rattle.dav_readcache.specs.declared.cached.Reading.{Reading}
use Rattle.dav_readcache.specs.declared.keeping.Wanted.{Wanted}
use Rattle.dav_readcache.specs.Cached.{place_of, seen_as, shown}
use Rattle.dav_readcache.specs.Opening.{Fetches, FrontIn, Holds, HoldsBy, HoldsWanted, Opening, Starves, says_tag, wanted_by}
use Rattle.dav_readcache.specs.Shelf.{bytes_for}
use Rattle.dav_readcache.proofs.Opened.{IsReadFrom, is_holding, is_unheld, refused_any, kept_where}
use Rattle.dav_readcache.proofs.Stepping.{place_placed}

module _ (f : Seen) {S C F : Type 0} (view : View S C F) where
  -- the file is told as it was opened, at the place up to which it was read
  record Kept (result : Result Reading NoMemory) (q : Opening S F) : Type 0 where
    count : ℕ
    after : Seen
    seen : seen_in view q.store q.file ≡ Some after
    stands : after.stands ≡ f.stands
    place : after.place ≡ count
    from : IsReadFrom count result

  kept_at : (m q : Opening S F) (result : Result Reading NoMemory) → f.place ≡ 0 → seen_in view m.store m.file ≡ Some f → q.store ≡ m.store → q.file ≡ m.file → IsReadFrom 0 result → Kept result q
  kept_at m q result first is store file from = record {
    count = 0;
    after = f;
    seen = ap (λ x. seen_in view x q.file) store ∙ (ap (seen_in view m.store) file ∙ is);
    stands = refl;
    place = first;
    from = from;
  }

  kept_starved : (m q : Opening S F) (result : Result Reading NoMemory) → f.place ≡ 0 → seen_in view m.store m.file ≡ Some f → Starves m result q → Kept result q
  kept_starved m q result first is starves = kept_at m q result first is (ap (λ (x : Opening S F). x.store) starves.same) (ap (λ (x : Opening S F). x.file) starves.same) (refused_any 0 result starves.refused)

  kept_fetched : (m q : Opening S F) (result : Result Reading NoMemory) (wanted : Wanted) → f.place ≡ 0 → seen_in view m.store m.file ≡ Some f → Fetches view wanted m result q → Kept result q
  kept_fetched m q result wanted first is fetches =
      let (g, seen, front) = told_after (seen_in view m.store m.file) (seen_in view fetches.store fetches.file) (FrontIn fetches.buffer fetches.count) f fetches.reads.reads.told is in
      let moved : g.place ≡ f.place + fetches.count = ap (λ (x : Seen). x.place) front.2 in
      record {
        count = fetches.count;
        after = g;
        seen = fetches.says.done.same ∙ seen;
        stands = ap (λ (x : Seen). x.stands) front.2;
        place = omega (arith, moved, first);
        from = kept_where ((fetches.count == wanted.len) && says_tag wanted.tag fetches.said) fetches.count wanted.len wanted.tag fetches.buffer m.shelf q.shelf result (says_tag wanted.tag fetches.said) refl fetches.len fetches.keeps;
      }

  kept_by : (found : Option (List ℕ)) (m q : Opening S F) (result : Result Reading NoMemory) (wanted : Wanted) → f.place ≡ 0 → seen_in view m.store m.file ≡ Some f → HoldsBy view found wanted m result q → Kept result q
  kept_by (Some bytes) m q result wanted first is (inl held) =
      kept_at m q result first is (ap (λ (x : Opening S F). x.store) held.1) (ap (λ (x : Opening S F). x.file) held.1) (is_holding wanted.tag bytes 0 result held.0)
  kept_by (Some bytes) m q result wanted first is (inr starves) = kept_starved m q result first is starves
  kept_by None m q result wanted first is (inl starves) = kept_starved m q result first is starves
  kept_by None m q result wanted first is (inr fetches) = kept_fetched m q result wanted first is fetches

  kept_wanted : (wanted : Option Wanted) (m q : Opening S F) (result : Result Reading NoMemory) → f.place ≡ 0 → seen_in view m.store m.file ≡ Some f → HoldsWanted view wanted m result q → Kept result q
  kept_wanted None m q result first is held = kept_at m q result first is (ap (λ (x : Opening S F). x.store) held.1) (ap (λ (x : Opening S F). x.file) held.1) (is_unheld 0 result held.0)
  kept_wanted (Some wanted) m q result first is held = kept_by (bytes_for wanted.tag m.shelf) m q result wanted first is held

  kept_holds : (p q : Opening S F) (result : Result Reading NoMemory) → f.place ≡ 0 → seen_in view p.store p.file ≡ Some f → Holds view p result q → Kept result q
  kept_holds p q result first is holds = by holds.holds
    where
      by : Starves (record p { store = holds.store; file = holds.file }) result q ⊎ HoldsWanted view (wanted_by p.shelf.most holds.said) (record p { store = holds.store; file = holds.file }) result q → Kept result q
      by (inl starves) = kept_starved (record p { store = holds.store; file = holds.file }) q result first (holds.says.done.same ∙ is) starves
      by (inr held) = kept_wanted (wanted_by p.shelf.most holds.said) (record p { store = holds.store; file = holds.file }) q result first (holds.says.done.same ∙ is) held

  -- as a cached file
  kept_seen : (r : Reading) (q : Opening S F) → Kept (Ok r) q → option_map (seen_as r) (seen_in view q.store q.file) ≡ Some (record { stands = shown r.content f.stands; place = 0 })
  kept_seen r q kept =
      let place : place_of r.pending kept.after.place ≡ 0 =
      ap (λ x. place_of x kept.after.place) kept.from.1 ∙ place_placed (Some kept.count) 0 kept.after.place (λ a e. kept.place ∙ some_nat kept.count a e) in
      ap (option_map (seen_as r)) kept.seen
      ∙ ap (λ x. Some x) (ap (λ x. record { stands = shown r.content x; place = place_of r.pending kept.after.place }) kept.stands ∙ ap (λ x. record { stands = shown r.content f.stands; place = x }) place)
    where
      some_nat : (a b : ℕ) → ◌≡◌ {A = Option ℕ} (Some a) (Some b) → a ≡ b
      some_nat a b e = cc

  -- A file that is held is told as it was opened, but for the bytes that are held.
  pub kept_shown : (r : Reading) (p q : Opening S F) → f.place ≡ 0 → seen_in view p.store p.file ≡ Some f → Holds view p (Ok r) q
      → option_map (seen_as r) (seen_in view q.store q.file) ≡ Some (record { stands = shown r.content f.stands; place = 0 })
  kept_shown r p q first seen holds = kept_seen r q (kept_holds p q (Ok r) first seen holds)

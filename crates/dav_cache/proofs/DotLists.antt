-- What `lru` does to dot-underscore entries, and what of them every cache keeps.
use Rattle.std.proofs.Common.{◌≡◌, ℕ, zero, suc, ◌<◌, ◌≤◌, ◌+◌, Bool, true, false, ◌||◌, List, [], ◌∷◌, ◌++◌, length, take, get_or, Option, Some, None, Result, Ok, Err, OnOk, is_ok, refl, sym, ap, subst, ◌∙◌, arith, inl, inr, take_all}
use Rattle.std.specs.List.{IsDistinct}
use Rattle.std.specs.Map.{keys_of, remove_entry}
use Rattle.std.proofs.Math.Seq.{take-suc}
use Rattle.std.proofs.lemmas.Bool.{cases_Bool, false≢true, true≢false, and_parts, or_cases, lt-ltb, le-ltb}
use Rattle.lru.specs.LruCache.{LruCache, lru_cache, put_entries}
use Rattle.dav_memory.specs.Trees.{Name, Names, same_name, is_after, is_less}
use Rattle.dav_memory.specs.Entries.{Dots, Listed, AreCounted, without, put, dir_key, same_key, put_name, put_dir, put_names, some_put, sealed, is_rising}
use Rattle.dav_memory.specs.declared.key.DuKey.{DuKey}
use Rattle.dav_memory.specs.declared.key.DuEntry.{DuEntry}
use Rattle.dav_memory.proofs.Keys.{key_decides, name_decides}
use Rattle.dav_cache.proofs.Bridge.{put-fresh}
use Rattle.dav_cache.proofs.Lru.{removed_is, put_is}
use Rattle.dav_cache.proofs.Order.{after_trans}
use Rattle.dav_memory.proofs.Order.{less_itself}
use Rattle.dav_cache.proofs.Dots.{below-take, below-without, falling-take, falling-without, seals}
use Rattle.dav_cache.proofs.Counts.{AreNew, counted-take, counted-dropped, counted-sealed}
use Rattle.dav_cache.proofs.Facts.{nothing_known}

exact : (a b : DuKey) → same_key a b ≡ true → a ≡ b
exact a b h = (key_decides a b).0 h

module _ (key : DuKey) (es : Dots) (distinct : IsDistinct same_key (keys_of es)) where
  pub dot_removed : remove_entry (same_key key) es ≡ without (same_key key) es
  dot_removed = removed_is same_key exact key es distinct

  pub dot_put : (entry : DuEntry) (size : ℕ) → length es ≤ size
      → put_entries same_key (lru_cache es size) key entry ≡ put size (same_key key) key entry es
  dot_put entry size fits = put_is same_key exact key es distinct entry size fits

-- entries of which no key stands twice, put from the last to the first
pub puts-back : (us : Dots) (key : DuKey) (e : DuEntry) (es all : Dots) (size : ℕ) (new : LruCache DuKey DuEntry) → us ++ (key, e) ∷ es ≡ all
    → IsDistinct same_key (keys_of all) → length all ≤ size
    → new ≡ lru_cache (put size (same_key key) key e es) size → us ++ new.entries ≡ all
puts-back us key e es all size new whole d fits is =
    ap (λ (c : LruCache DuKey DuEntry). us ++ c.entries) is
    ∙ ap (λ (l : Dots). us ++ l) (put-fresh same_key exact key size us e es (subst (λ (l : Dots). IsDistinct same_key (keys_of l)) (sym whole) d) (subst (λ (l : Dots). length l ≤ size) (sym whole) fits))
    ∙ whole

-- what holds where a result is Ok
pub on_ok : {A E : Type 0} (result : Result A E) (P : Type 0) → OnOk result P → is_ok result ≡ true → P
on_ok (Ok x) P h is = h
on_ok (Err e) P h is = absurd (false≢true is)

-- a key without a name is that of the directory itself
pub at_dir : (key : DuKey) → key.name ≡ None → key ≡ dir_key key.dir
at_dir key h = λ i. record { dir = key.dir; name = h i }

-- ---- what every cache keeps

pub counted-cut : (next n : ℕ) (es : Dots) → AreCounted next es → AreCounted next (take n es)
counted-cut next n es all = record {
  below = below-take next n es all.below;
  falling = falling-take n es all.falling;
  counted = λ d. counted-take n es d all.falling (all.counted d);
}

counted-less : (next : ℕ) (dir : Names) (es : Dots) → AreCounted next es → AreCounted next (without (same_key (dir_key dir)) es)
counted-less next dir es all = record {
  below = below-without next (same_key (dir_key dir)) es all.below;
  falling = falling-without (same_key (dir_key dir)) es all.falling;
  counted = λ d. counted-dropped dir d es (all.counted d);
}

pub counted-drop : (next : ℕ) (key : DuKey) (es : Dots) → key.name ≡ None → AreCounted next es → AreCounted next (without (same_key key) es)
counted-drop next key es h all =
    subst (λ (k : DuKey). AreCounted next (without (same_key k) es)) (sym (at_dir key h)) (counted-less next key.dir es all)

-- names that rise are new, each of them
new_rising : (P : Name → Bool) (last : Option Name) (names : List Name) → is_rising last names ≡ true
    → ((x : Name) → P x ≡ true → is_after last x ≡ false) → AreNew P names
new_rising P last [] rise past = tt
new_rising P last (name ∷ names) rise past =
    let parts = and_parts (is_after last name) (is_rising (Some name) names) rise in (
      elim (cases_Bool (P name)) [ inl old ↦ absurd (true≢false (sym parts.0 ∙ past name old)) | inr new ↦ new ],
      new_rising (λ y. same_name y name || P y) (Some name) names parts.1 (λ x h. elim (or_cases (same_name x name) (P x) h) [
        | inl same ↦ subst (λ w. is_less name w ≡ false) (sym ((name_decides x name).0 same)) (less_itself name)
        | inr old ↦ elim (cases_Bool (is_less name x)) [ inl less ↦ absurd (true≢false (sym (after_trans last name x parts.0 less) ∙ past x old)) | inr not_ ↦ not_ ]
      ]),
    )

pub counted-seal : (size : ℕ) (l : Listed) (names : List Name) (room : ℕ) (es : Dots) → is_rising None names ≡ true → AreCounted l.number es
    → AreCounted (l.number + 1) (sealed size l names room es)
counted-seal size l names room es rise all =
    let done = seals [] size es l names room all.falling all.below (λ d e h tree known. absurd (nothing_known tree known)) (λ tree known. absurd (nothing_known tree known)) in
    record {
      below = done.below;
      falling = done.falling;
      counted = counted-sealed size l names room es all.falling all.below all.counted (new_rising (λ x. false) None names rise (λ x h. absurd (false≢true h)));
    }

-- ---- puts that were made

pub put_names-push : (size : ℕ) (l : Listed) (names : List Name) (name : Name) (es : Dots)
    → put_names size l (names ++ name ∷ []) es ≡ put_name size l name (put_names size l names es)
put_names-push size l [] name es = refl
put_names-push size l (n ∷ names) name es = put_names-push size l names name (put_name size l n es)

-- one more name
pub some_put-more : (size : ℕ) (l : Listed) (names : List Name) (n i : ℕ) (name : Name) (es : Dots) → n ≡ i + 1 → i < length names
    → name ≡ get_or names i name
    → put_name size l name (some_put size l names n es) ≡ some_put size l names (n + 1) es
some_put-more size l names n i name es is lt at =
    let first = put_dir size l (length names) es in
    let now : n ≡ suc i = omega arith in
    let next : n + 1 ≡ suc (suc i) = omega arith in
    ap (λ k. put_name size l name (some_put size l names k es)) now
    ∙ sym (put_names-push size l (take i names) name first)
    ∙ ap (λ (x : Name). put_names size l (take i names ++ x ∷ []) first) at
    ∙ sym (ap (λ (xs : List Name). put_names size l xs first) (take-suc names i name lt))
    ∙ sym (ap (λ k. some_put size l names k es) next)

-- one more name, as the loop makes it
pub puts-more : (size : ℕ) (l : Listed) (names : List Name) (n i : ℕ) (name : Name) (es : Dots) (old new : LruCache DuKey DuEntry) → n ≡ i + 1
    → i < length names → name ≡ get_or names i name
    → old ≡ lru_cache (some_put size l names n es) size → new ≡ lru_cache (put_name old.cap l name old.entries) old.cap
    → new ≡ lru_cache (some_put size l names (n + 1) es) size
puts-more size l names n i name es old new is lt at was now =
    now ∙ ap (λ (c : LruCache DuKey DuEntry). lru_cache (put_name c.cap l name c.entries) c.cap) was ∙ ap (λ (d : Dots). lru_cache d size) (some_put-more size l names n i name es is lt at)

-- where a put was not made, the directory's entry is out
pub sealed-short : (size : ℕ) (l : Listed) (names : List Name) (n : ℕ) (es : Dots) → n ≤ length names
    → without (same_key (dir_key l.dir)) (some_put size l names n es) ≡ sealed size l names n es
sealed-short size l names zero es le = refl
sealed-short size l names (suc k) es le = rw (lt-ltb k (length names) (omega arith)) refl

-- all were made
pub sealed-all : (size : ℕ) (l : Listed) (names : List Name) (n : ℕ) (es : Dots) → n ≡ length names + 1
    → some_put size l names n es ≡ sealed size l names n es
sealed-all size l names zero es is = absurd (omega arith)
sealed-all size l names (suc k) es is =
    let same : k ≡ length names = omega arith in
    rw (le-ltb k (length names) (omega arith))
    (ap (λ (xs : List Name). put_names size l xs (put_dir size l (length names) es)) (take_all k names (omega arith)))

-- A table of the numbers, with the directory and the time that each belongs to.
use Rattle.std.proofs.Common.{◌≡◌, ℕ, zero, suc, ◌<◌, ◌-◌, ◌==◌, nat_lt, Bool, true, false, List, [], ◌∷◌, length, take, Some, None, if◌then◌else◌, refl, sym, ap, ◌∙◌, arith, inl, inr}
use Rattle.std.specs.Map.{lookup}
use Rattle.std.proofs.lemmas.Bool.{eq-eqb, ne_eqb}
use Rattle.dav_memory.specs.Trees.{Name, Names, FileTime}
use Rattle.dav_memory.specs.Entries.{Dots, Listed, AllBelow, same_key, dir_key, name_key, put, without, put_name, put_names, put_dir, sealed}
use Rattle.dav_memory.specs.declared.key.DuKey.{DuKey}
use Rattle.dav_memory.specs.declared.key.DuEntry.{DuEntry}
use Rattle.dav_cache.specs.Transparency.{Numbers, AllNumbered}
use Rattle.dav_memory.proofs.Keys.{key_tells}

-- ---- a table with one more number

abbrev pub with_number : Numbers → ℕ → Names × FileTime → Numbers
with_number table number what n = if n == number then what else table n

pub with_number-own : (table : Numbers) (number : ℕ) (what : Names × FileTime) → with_number table number what number ≡ what
with_number-own table number what = ap (λ b. if b then what else table number) (eq-eqb number number refl)

pub with_number-other : (table : Numbers) (number : ℕ) (what : Names × FileTime) (n : ℕ) → n < number → with_number table number what n ≡ table n
with_number-other table number what n less = ap (λ b. if b then what else table n) (ne_eqb n number (λ h. omega arith))

-- the entries below that number have what they had
pub numbered-like : (table : Numbers) (number : ℕ) (what : Names × FileTime) (es : Dots) → AllBelow number es → AllNumbered table es
    → AllNumbered (with_number table number what) es
numbered-like table number what [] below all = tt
numbered-like table number what (e ∷ es) below all =
    (with_number-other table number what e.1.number below.0 ∙ all.0, numbered-like table number what es below.1 all.1)

-- ---- entries that come and go

abbrev belongs : Names → FileTime → Names × FileTime
belongs dir time = (dir, time)

module _ (table : Numbers) where
  pub numbered-lookup : (k : DuKey) (es : Dots) (e : DuEntry) → AllNumbered table es → lookup (same_key k) es ≡ Some e
      → table e.number ≡ (k.dir, e.time)
  numbered-lookup k [] e all h = cc
  numbered-lookup k (f ∷ fs) e all h = elim (key_tells k f.0) [
    | inl is ↦
        let s : Some f.1 ≡ Some e = rw (is.0) at h in
        let same : f.1 ≡ e = cc in
        ap (λ (w : DuEntry). table w.number) (sym same) ∙ all.0 ∙ ap (λ (w : DuKey). belongs w.dir f.1.time) (sym is.1) ∙ ap (λ (w : DuEntry). belongs k.dir w.time) same
    | inr is ↦ numbered-lookup k fs e all.1 (rw (is.0) at h)
  ]

  pub numbered-take : (n : ℕ) (es : Dots) → AllNumbered table es → AllNumbered table (take n es)
  numbered-take zero es all = tt
  numbered-take (suc n) [] all = tt
  numbered-take (suc n) (e ∷ es) all = (all.0, numbered-take n es all.1)

  pub numbered-without : (test : DuKey → Bool) (es : Dots) → AllNumbered table es → AllNumbered table (without test es)
  numbered-without test [] all = tt
  numbered-without test (e ∷ es) all = (elim (test e.0) as (λ y. test e.0 ≡ y → AllNumbered table (without test (e ∷ es))) [
    | true ↦ λ t. rw t (numbered-without test es all.1)
    | false ↦ λ t. rw t (all.0, numbered-without test es all.1)
  ]) refl

  numbered-put : (size : ℕ) (k : DuKey) (e : DuEntry) (es : Dots) → table e.number ≡ (k.dir, e.time) → AllNumbered table es
      → AllNumbered table (put size (same_key k) k e es)
  numbered-put size k e es is all = (is, numbered-take (size - 1) (without (same_key k) es) (numbered-without (same_key k) es all))

  module _ (size : ℕ) (l : Listed) (is : table l.number ≡ (l.dir, l.time)) where
    numbered-dir : (count : ℕ) (es : Dots) → AllNumbered table es → AllNumbered table (put_dir size l count es)
    numbered-dir count es all =
        numbered-put size (dir_key l.dir) (record { moment = l.moment; time = l.time; number = l.number; count = Some count }) es is all

    numbered-names : (names : List Name) (es : Dots) → AllNumbered table es → AllNumbered table (put_names size l names es)
    numbered-names [] es all = all
    numbered-names (name ∷ names) es all =
        numbered-names names (put_name size l name es) (numbered-put size (name_key l.dir name) (record { moment = l.moment; time = l.time; number = l.number; count = None }) es is all)

  -- a listing that is sealed
  pub numbered-sealed : (size : ℕ) (l : Listed) (names : List Name) (room : ℕ) (es : Dots) → AllNumbered table es → table l.number ≡ (l.dir, l.time)
      → AllNumbered table (sealed size l names room es)
  numbered-sealed size l names zero es all is = numbered-without (same_key (dir_key l.dir)) es all
  numbered-sealed size l names (suc room) es all is =
      let dir = numbered-dir size l is (length names) es all in
      (elim (nat_lt room (length names)) as (λ b. AllNumbered table (if b then without (same_key (dir_key l.dir)) (put_names size l (take room names) (put_dir size l (length names) es)) else put_names size l names (put_dir size l (length names) es))) [
        | true ↦ numbered-without (same_key (dir_key l.dir)) (put_names size l (take room names) (put_dir size l (length names) es)) (numbered-names size l is (take room names) (put_dir size l (length names) es) dir)
        | false ↦ numbered-names size l is names (put_dir size l (length names) es) dir
      ])

-- Fronts of entries that fit.
use Rattle.std.specs.Prelude.{◌≡◌, ◌≤◌, ◌<◌, ◌+◌, ◌-◌, ◌&&◌, ◌++◌, ◌⊎◌, ℕ, List, [], ◌∷◌, Bool, true, false, cond, length, take, nat_lt, nat_le, Some, refl}
use Rattle.std.proofs.Common.{sym, ap, subst, ◌∙◌, inl, inr, arith}
use Rattle.std.specs.Map.{lookup}
use Rattle.std.specs.Prelude.{None, Option}
use Rattle.std.proofs.lemmas.Bool.{and_parts}
use Rattle.std.proofs.lemmas.Bool.Decides.{nat_tests}
use Rattle.lru.proofs.Pairs.{last_of_push}
use Rattle.std.specs.Prelude.{nat_eq}
use Rattle.std.specs.Cmp.Lexicographic.{pointwise}
use Rattle.std.specs.Map.{lookup_entry, remove_entry}
use Rattle.std.specs.Option.{option_map_or}
use Rattle.std.proofs.lemmas.List.{take_all}
use Rattle.lru.specs.LruCache.{LruCache, lru_cache, put_entries}
use Rattle.dav_readcache.proofs.Orders.{no_entry}
use Rattle.dav_readcache.specs.Shelf.{AreWithin, Pairs, ShelfState, bytes_for, fits, front_within, last_len, len_of, made_room, put_first, total}

le_yes : (a b : ℕ) → a ≤ b → nat_le a b ≡ true
le_yes a b le = grind (arith, nat_tests)

le_not : (a b : ℕ) → b < a → nat_le a b ≡ false
le_not a b lt = grind (arith, nat_tests)

le_of : (a b : ℕ) → nat_le a b ≡ true → a ≤ b
le_of a b e = grind (arith, nat_tests)

not_le : (a b : ℕ) → nat_le a b ≡ false → b < a
not_le a b e = grind (arith, nat_tests)

lt_of : (a b : ℕ) → nat_lt a b ≡ true → a < b
lt_of a b e = grind (arith, nat_tests)

not_lt : (a b : ℕ) → nat_lt a b ≡ false → b ≤ a
not_lt a b e = grind (arith, nat_tests)

-- ---- the last entry

Last : Pairs → Type 0
Last pairs = (pairs ≡ []) ⊎ ((front : Pairs) × (x : List ℕ × List ℕ) × (pairs ≡ front ++ x ∷ []))

one_more : (p : List ℕ × List ℕ) (pairs : Pairs) → (pairs ≡ []) ⊎ ((front : Pairs) × (x : List ℕ × List ℕ) × (pairs ≡ front ++ x ∷ []))
    → (front : Pairs) × (x : List ℕ × List ℕ) × (p ∷ pairs ≡ front ++ x ∷ [])
one_more p pairs (inl e) = ([], p, ap (λ x. p ∷ x) e)
one_more p pairs (inr (front, x, e)) = (p ∷ front, x, ap (λ x. p ∷ x) e)

snoc : (pairs : Pairs) → (pairs ≡ []) ⊎ ((front : Pairs) × (x : List ℕ × List ℕ) × (pairs ≡ front ++ x ∷ []))
snoc [] = inl refl
snoc (p ∷ pairs) = inr (one_more p pairs (snoc pairs))

total_push : (front : Pairs) (x : List ℕ × List ℕ) → total (front ++ x ∷ []) ≡ total front + length x.1
total_push [] x = omega arith
total_push (p ∷ front) x = let e = total_push front x in omega (arith, e)

length_push : (front : Pairs) (x : List ℕ × List ℕ) → length (front ++ x ∷ []) ≡ length front + 1
length_push [] x = refl
length_push (p ∷ front) x = let e = length_push front x in omega (arith, e)

within_push : (most : ℕ) (front : Pairs) (x : List ℕ × List ℕ) → AreWithin most (front ++ x ∷ []) → AreWithin most front
within_push most [] x all = tt
within_push most (p ∷ front) x (one, all) = (one, within_push most front x all)

-- The last entry goes.
pub record IsPopped (most : ℕ) (pairs : Pairs) : Type 0 where
  pub less : total (take (length pairs - 1) pairs) + last_len pairs ≡ total pairs
  pub within : AreWithin most (take (length pairs - 1) pairs)

popped_push : (most : ℕ) (front : Pairs) (x : List ℕ × List ℕ) → AreWithin most (front ++ x ∷ []) → IsPopped most (front ++ x ∷ [])
popped_push most front x all =
    let (last, rest) = last_of_push front x in
    record {
      less = ap (λ y. total y + last_len (front ++ x ∷ [])) rest ∙ (ap (λ o. total front + len_of o) last ∙ sym (total_push front x));
      within = subst (AreWithin most) (sym rest) (within_push most front x all);
    }

pub popped : (most : ℕ) (pairs : Pairs) → AreWithin most pairs → IsPopped most pairs
popped most pairs all = by (snoc pairs)
  where
    by : (pairs ≡ []) ⊎ ((front : Pairs) × (x : List ℕ × List ℕ) × (pairs ≡ front ++ x ∷ [])) → IsPopped most pairs
    by (inl e) = subst (IsPopped most) (sym e) (record { less = refl; within = tt })
    by (inr (front, x, e)) = subst (IsPopped most) (sym e) (popped_push most front x (subst (AreWithin most) e all))

pub last_within : (pairs : Pairs) → last_len pairs ≤ total pairs
last_within pairs = by (snoc pairs)
  where
    by : (pairs ≡ []) ⊎ ((front : Pairs) × (x : List ℕ × List ℕ) × (pairs ≡ front ++ x ∷ [])) → last_len pairs ≤ total pairs
    by (inl e) = subst (λ y. last_len y ≤ total y) (sym e) (omega arith)
    by (inr (front, x, e)) = subst (λ y. last_len y ≤ total y) (sym e)
        (let a : last_len (front ++ x ∷ []) ≡ length x.1 = ap len_of (last_of_push front x).0 in let b = total_push front x in omega (arith, a, b))

-- ---- fronts

pub front_fits : (n r : ℕ) (pairs : Pairs) → length pairs ≤ n → total pairs ≤ r → front_within n r pairs ≡ pairs
front_fits n r [] few small = refl
front_fits n r (p ∷ pairs) few small =
    rw (le_yes 1 n (omega (arith, few)), le_yes (length p.1) r (omega (arith, small))) (ap (λ x. p ∷ x) (front_fits (n - 1) (r - length p.1) pairs (omega (arith, few)) (omega (arith, small))))

off_and : (a b : Bool) → (a ≡ false) ⊎ (b ≡ false) → (a && b) ≡ false
off_and true b (inl e) = cc
off_and true b (inr e) = e
off_and false b e = refl

front_push : (n r : ℕ) (front : Pairs) (x : List ℕ × List ℕ) → (n < length front + 1) ⊎ (r < total front + length x.1) → front_within n r (front ++ x ∷ []) ≡ front_within n r front
front_push n r [] x over = ap (λ b. cond b (x ∷ []) []) (off_and (nat_le 1 n) (nat_le (length x.1) r) (by over))
  where
    by : (n < 0 + 1) ⊎ (r < 0 + length x.1) → (nat_le 1 n ≡ false) ⊎ (nat_le (length x.1) r ≡ false)
    by (inl lt) = inl (le_not 1 n (omega (arith, lt)))
    by (inr lt) = inr (le_not (length x.1) r (omega (arith, lt)))
front_push n r (p ∷ front) x over = by (nat_le 1 n && nat_le (length p.1) r) refl (λ next. front_push (n - 1) (r - length p.1) front x next)
  where
    next : 1 ≤ n → length p.1 ≤ r → (n < length (p ∷ front) + 1) ⊎ (r < total (p ∷ front) + length x.1) → (n - 1 < length front + 1) ⊎ (r - length p.1 < total front + length x.1)
    next some small (inl lt) = inl (omega (arith, some, lt))
    next some small (inr lt) = inr (omega (arith, small, lt))

    by : (b : Bool) → (nat_le 1 n && nat_le (length p.1) r) ≡ b
        → ((n - 1 < length front + 1) ⊎ (r - length p.1 < total front + length x.1) → front_within (n - 1) (r - length p.1) (front ++ x ∷ []) ≡ front_within (n - 1) (r - length p.1) front)
        → front_within n r (p ∷ (front ++ x ∷ [])) ≡ front_within n r (p ∷ front)
    by true e more =
        let parts = and_parts (nat_le 1 n) (nat_le (length p.1) r) e in
        ap (λ y. cond (nat_le 1 n && nat_le (length p.1) r) (p ∷ y) []) (more (next (le_of 1 n parts.0) (le_of (length p.1) r parts.1) over))
    by false e more = ap (λ b. cond b (p ∷ front_within (n - 1) (r - length p.1) (front ++ x ∷ [])) []) e ∙ sym (ap (λ b. cond b (p ∷ front_within (n - 1) (r - length p.1) front) []) e)

over_of : (size room len : ℕ) (pairs : Pairs) → 0 < size → len ≤ room → fits size room len pairs ≡ false → (size - 1 < length pairs) ⊎ (room - len < total pairs)
over_of size room len pairs some small out = by (nat_lt (length pairs) size) refl out
  where
    by : (b : Bool) → nat_lt (length pairs) size ≡ b → (b && nat_le len (room - total pairs)) ≡ false → (size - 1 < length pairs) ⊎ (room - len < total pairs)
    by true e f = (let lt : room - total pairs < len = not_le len (room - total pairs) f in inr (omega (arith, lt, small)))
    by false e f = (let le : size ≤ length pairs = not_lt (length pairs) size e in inl (omega (arith, le, some)))

-- A list that doesn't fit has the front that it has without its last entry.
pub front_popped : (size room len : ℕ) (pairs : Pairs) → 0 < size → len ≤ room → fits size room len pairs ≡ false
    → (front_within (size - 1) (room - len) (take (length pairs - 1) pairs) ≡ front_within (size - 1) (room - len) pairs) × (0 < length pairs)
front_popped size room len pairs some small out = by (snoc pairs) (over_of size room len pairs some small out)
  where
    by : (pairs ≡ []) ⊎ ((front : Pairs) × (x : List ℕ × List ℕ) × (pairs ≡ front ++ x ∷ [])) → (size - 1 < length pairs) ⊎ (room - len < total pairs)
        → (front_within (size - 1) (room - len) (take (length pairs - 1) pairs) ≡ front_within (size - 1) (room - len) pairs) × (0 < length pairs)
    by (inl e) (inl lt) = absurd (let z : length pairs ≡ 0 = ap length e in omega (arith, lt, z))
    by (inl e) (inr lt) = absurd (let z : total pairs ≡ 0 = ap total e in omega (arith, lt, z))
    by (inr (front, x, e)) over = (
      ap (front_within (size - 1) (room - len)) (subst (λ y. take (length y - 1) y ≡ front) (sym e) (last_of_push front x).1)
          ∙ (sym (front_push (size - 1) (room - len) front x (pushed over)) ∙ ap (front_within (size - 1) (room - len)) (sym e)),
      (let z : length pairs ≡ length front + 1 = ap length e ∙ length_push front x in omega (arith, z)),
    )
      where
        pushed : (size - 1 < length pairs) ⊎ (room - len < total pairs) → (size - 1 < length front + 1) ⊎ (room - len < total front + length x.1)
        pushed (inl lt) = inl (let z : length pairs ≡ length front + 1 = ap length e ∙ length_push front x in omega (arith, lt, z))
        pushed (inr lt) = inr (let z : total pairs ≡ total front + length x.1 = ap total e ∙ total_push front x in omega (arith, lt, z))

-- A list that fits is its front.
pub front_whole : (size room len : ℕ) (pairs : Pairs) → total pairs ≤ room → fits size room len pairs ≡ true → front_within (size - 1) (room - len) pairs ≡ pairs
front_whole size room len pairs held in_room =
    let parts = and_parts (nat_lt (length pairs) size) (nat_le len (room - total pairs)) in_room in
    let lt : length pairs < size = lt_of (length pairs) size parts.0 in
    let le : len ≤ room - total pairs = le_of len (room - total pairs) parts.1 in
    front_fits (size - 1) (room - len) pairs (omega (arith, lt)) (omega (arith, le, held))

-- ---- what a front keeps

total_front_when : (b : Bool) (n r : ℕ) (p : List ℕ × List ℕ) (pairs : Pairs) → (nat_le 1 n && nat_le (length p.1) r) ≡ b
    → total (front_within (n - 1) (r - length p.1) pairs) ≤ r - length p.1
    → total (cond b (p ∷ front_within (n - 1) (r - length p.1) pairs) []) ≤ r
total_front_when true n r p pairs e le =
    let small : length p.1 ≤ r = le_of (length p.1) r (and_parts (nat_le 1 n) (nat_le (length p.1) r) e).1 in omega (arith, small, le)
total_front_when false n r p pairs e le = omega arith

pub total_front : (n r : ℕ) (pairs : Pairs) → total (front_within n r pairs) ≤ r
total_front n r [] = omega arith
total_front n r (p ∷ pairs) = total_front_when (nat_le 1 n && nat_le (length p.1) r) n r p pairs refl (total_front (n - 1) (r - length p.1) pairs)

length_front_when : (b : Bool) (n r : ℕ) (p : List ℕ × List ℕ) (pairs : Pairs) → (nat_le 1 n && nat_le (length p.1) r) ≡ b
    → length (front_within (n - 1) (r - length p.1) pairs) ≤ n - 1
    → length (cond b (p ∷ front_within (n - 1) (r - length p.1) pairs) []) ≤ n
length_front_when true n r p pairs e le =
    let some : 1 ≤ n = le_of 1 n (and_parts (nat_le 1 n) (nat_le (length p.1) r) e).0 in omega (arith, some, le)
length_front_when false n r p pairs e le = omega arith

pub length_front : (n r : ℕ) (pairs : Pairs) → length (front_within n r pairs) ≤ n
length_front n r [] = omega arith
length_front n r (p ∷ pairs) = length_front_when (nat_le 1 n && nat_le (length p.1) r) n r p pairs refl (length_front (n - 1) (r - length p.1) pairs)

none_left : (b : Bool) (x : List ℕ) (o : Option (List ℕ)) → cond b (Some x) o ≡ None → (b ≡ false) × (o ≡ None)
none_left true x o e = cc
none_left false x o e = (refl, e)

lookup_front_when : (test : List ℕ → Bool) (b : Bool) (p : List ℕ × List ℕ) (rest : Pairs) → test p.0 ≡ false → lookup test rest ≡ None → lookup test (cond b (p ∷ rest) []) ≡ None
lookup_front_when test true p rest off none = rw off none
lookup_front_when test false p rest off none = refl

-- A tag that no entry has, no entry of a front has.
pub lookup_front : (test : List ℕ → Bool) (n r : ℕ) (pairs : Pairs) → lookup test pairs ≡ None → lookup test (front_within n r pairs) ≡ None
lookup_front test n r [] e = refl
lookup_front test n r (p ∷ pairs) e =
    let (off, none) = none_left (test p.0) p.1 (lookup test pairs) e in
    lookup_front_when test (nat_le 1 n && nat_le (length p.1) r) p (front_within (n - 1) (r - length p.1) pairs) off (lookup_front test (n - 1) (r - length p.1) pairs none)

-- ---- putting first

put_when : (o : Option (List ℕ × List ℕ)) (tag bytes : List ℕ) (rest kept : Pairs) → o ≡ None → kept ≡ rest
    → option_map_or (λ e. (e.0, bytes) ∷ remove_entry (pointwise nat_eq tag) rest) o ((tag, bytes) ∷ kept) ≡ (tag, bytes) ∷ rest
put_when None tag bytes rest kept none same = ap (λ xs. (tag, bytes) ∷ xs) same
put_when (Some e) tag bytes rest kept none same = cc

-- What is put for a tag that no entry has comes first, and where there is room nothing goes.
pub put_new : (c : LruCache (List ℕ) (List ℕ)) (tag bytes : List ℕ) → lookup (pointwise nat_eq tag) c.entries ≡ None → length c.entries ≤ c.cap - 1
    → put_entries (pointwise nat_eq) c tag bytes ≡ (tag, bytes) ∷ c.entries
put_new c tag bytes none few =
    put_when (lookup_entry (pointwise nat_eq tag) c.entries) tag bytes c.entries (take (c.cap - 1) c.entries) (no_entry (pointwise nat_eq tag) c.entries none) (take_all (c.cap - 1) c.entries few)

pub record IsPut (s : ShelfState) (tag bytes : List ℕ) (c d : LruCache (List ℕ) (List ℕ)) : Type 0 where
  pub first : d.entries ≡ (tag, bytes) ∷ c.entries
  pub entries : d.entries ≡ (put_first tag bytes s).entries
  pub cap : d.cap ≡ s.size
  pub sum : total d.entries ≡ total c.entries + length bytes
  pub room : total c.entries + length bytes ≤ s.room

-- A content is put first where the last ones went until it fits.
pub put_is : (s : ShelfState) (tag bytes : List ℕ) (c d : LruCache (List ℕ) (List ℕ)) → bytes_for tag s ≡ None → length bytes ≤ s.room → c.entries ≡ (made_room (length bytes) s).entries → c.cap ≡ s.size
    → d ≡ lru_cache (put_entries (pointwise nat_eq) c tag bytes) c.cap → IsPut s tag bytes c d
put_is s tag bytes c d none small front cap put =
    let none_left : lookup (pointwise nat_eq tag) c.entries ≡ None = ap (lookup (pointwise nat_eq tag)) front ∙ lookup_front (pointwise nat_eq tag) (s.size - 1) (s.room - length bytes) s.entries none in
    let few : length c.entries ≤ c.cap - 1 = let a : length c.entries ≡ length (made_room (length bytes) s).entries = ap length front in let b = length_front (s.size - 1) (s.room - length bytes) s.entries in omega (arith, a, b, cap) in
    let first : d.entries ≡ (tag, bytes) ∷ c.entries = ap (λ (x : LruCache (List ℕ) (List ℕ)). x.entries) put ∙ put_new c tag bytes none_left few in
    let sum : total c.entries ≤ s.room - length bytes = subst (λ xs. total xs ≤ s.room - length bytes) (sym front) (total_front (s.size - 1) (s.room - length bytes) s.entries) in
    record {
      first = first;
      entries = first ∙ ap (λ xs. (tag, bytes) ∷ xs) front;
      cap = ap (λ (x : LruCache (List ℕ) (List ℕ)). x.cap) put ∙ cap;
      sum = (let e : total d.entries ≡ total ((tag, bytes) ∷ c.entries) = ap total first in omega (arith, e));
      room = omega (arith, sum, small);
    }

pub put_within : (most : ℕ) (tag bytes : List ℕ) (xs ys : Pairs) → ys ≡ (tag, bytes) ∷ xs → length bytes ≤ most → AreWithin most xs → AreWithin most ys
put_within most tag bytes xs ys e one all = subst (AreWithin most) (sym e) (one, all)

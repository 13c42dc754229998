-- The count of a directory's entry is the number of names with its number, whatever is done to the entries.
use Rattle.std.proofs.Common.{◌≡◌, ◌≢◌, ℕ, zero, suc, ◌<◌, ◌+◌, ◌-◌, Bool, true, false, ◌&&◌, ◌||◌, ◌==◌, List, [], ◌∷◌, length, take, Some, None, is_some, if◌then◌else◌, nat_lt, refl, sym, ap, subst, ◌∙◌, arith, inl, inr}
use Rattle.std.specs.Map.{lookup}
use Rattle.std.proofs.lemmas.Bool.{true≢false, ne_eqb, eq-eqb}
use Rattle.dav_memory.specs.Trees.{Name, Names, same_name}
use Rattle.dav_memory.specs.Entries.{Dots, Listed, without, dir_key, name_key, same_key, put_name, put_dir, put_names, sealed, is_named, named, AllUnder, IsCounted}
use Rattle.dav_memory.specs.declared.key.DuKey.{DuKey}
use Rattle.dav_memory.specs.declared.key.DuEntry.{DuEntry}
use Rattle.dav_memory.proofs.Keys.{key_decides, key_tells, path_tells, name_decides, dir≢name, same_dir}
use Rattle.dav_memory.proofs.Lists.{lookup-without_same, lookup-take}
use Rattle.dav_cache.proofs.Dots.{AllBelow, Falling, below-take, below-without, below-lookup, falling-take, falling-without, lookup-away, lookup-past, lookup-front}

pub named-below : (n : ℕ) (es : Dots) → AllBelow n es → named n es ≡ 0
named-below n [] all = refl
named-below n (e ∷ es) all =
    let rest = named-below n es all.1 in
    let other : (e.1.number == n) ≡ false = ne_eqb e.1.number n (λ h. let l : e.1.number < n = all.0 in omega arith) in
    (elim (is_some e.0.name) as (λ b. (if b && (e.1.number == n) then 1 else 0) + named n es ≡ 0) [
      | true ↦ rw (other, rest) refl
      | false ↦ rw rest refl
    ])

-- while the directory's entry is not cut off, no name with its number is
pub named-take : (m : ℕ) (es : Dots) (d : Names) (e : DuEntry) → Falling es → lookup (same_key (dir_key d)) (take m es) ≡ Some e
    → named e.number (take m es) ≡ named e.number es
named-take zero es d e f h = cc
named-take (suc m) [] d e f h = refl
named-take (suc m) (g ∷ gs) d e f h = ap (λ k. (if is_named e.number g then 1 else 0) + k) (elim (key_tells (dir_key d) g.0) [
  | inl is ↦
      let s : Some g.1 ≡ Some e = rw (is.0) at h in
      let same : g.1 ≡ e = cc in
      let older : AllBelow g.1.number gs = f.0 (ap (λ (k : DuKey). k.name) (sym is.1)) in
      let older' : AllBelow e.number gs = subst (λ (w : DuEntry). AllBelow w.number gs) same older in
      named-below e.number (take m gs) (below-take e.number m gs older') ∙ sym (named-below e.number gs older')
  | inr is ↦ named-take m gs d e f.1 (rw (is.0) at h)
])

pub under-take : (d : Names) (n m : ℕ) (es : Dots) → AllUnder d n es → AllUnder d n (take m es)
under-take d n zero es all = tt
under-take d n (suc m) [] all = tt
under-take d n (suc m) (e ∷ es) all = (all.0, under-take d n m es all.1)

pub under-without : (d : Names) (n : ℕ) (test : DuKey → Bool) (es : Dots) → AllUnder d n es → AllUnder d n (without test es)
under-without d n test [] all = tt
under-without d n test (e ∷ es) all = (elim (test e.0) as (λ y. test e.0 ≡ y → AllUnder d n (without test (e ∷ es))) [
  | true ↦ λ t. rw t (under-without d n test es all.1)
  | false ↦ λ t. rw t (all.0, under-without d n test es all.1)
]) refl

under-below : (d : Names) (n : ℕ) (es : Dots) → AllBelow n es → AllUnder d n es
under-below d n [] all = tt
under-below d n (e ∷ es) all = (λ h. let l : e.1.number < n = all.0 in absurd (omega arith), under-below d n es all.1)

-- what is taken out is no name with this number
abbrev Misses : (DuKey → Bool) → ℕ → Dots → Type 0
Misses test n [] = Unit {0}
Misses test n (e ∷ es) = (test e.0 ≡ true → is_named n e ≡ false) × Misses test n es

named-without : (test : DuKey → Bool) (n : ℕ) (es : Dots) → Misses test n es → named n (without test es) ≡ named n es
named-without test n [] miss = refl
named-without test n (e ∷ es) miss =
    let rest = named-without test n es miss.1 in
    (elim (test e.0) as (λ y. test e.0 ≡ y → named n (without test (e ∷ es)) ≡ named n (e ∷ es)) [
      | true ↦ λ t. rw t (rest ∙ sym (ap (λ b. (if b then 1 else 0) + named n es) (miss.0 t) ∙ zero_plus (named n es)))
      | false ↦ λ t. rw t (ap (λ k. (if is_named n e then 1 else 0) + k) rest)
    ]) refl
  where
    zero_plus : (k : ℕ) → 0 + k ≡ k
    zero_plus k = omega arith

misses-dir : (k : Names) (n : ℕ) (es : Dots) → Misses (same_key (dir_key k)) n es
misses-dir k n [] = tt
misses-dir k n (e ∷ es) = (
  λ t.
      let is : dir_key k ≡ e.0 = (key_decides (dir_key k) e.0).0 t in
      ap (λ (j : DuKey). is_some j.name && (e.1.number == n)) (sym is),
  misses-dir k n es,
)

misses-away : (k d : Names) (x : Name) (n : ℕ) (es : Dots) → k ≢ d → AllUnder d n es → Misses (same_key (name_key k x)) n es
misses-away k d x n [] ne all = tt
misses-away k d x n (e ∷ es) ne all = (
  λ t.
      let is : name_key k x ≡ e.0 = (key_decides (name_key k x) e.0).0 t in
      let other : (e.1.number == n) ≡ false = ne_eqb e.1.number n (λ h. ne (ap (λ (j : DuKey). j.dir) is ∙ all.0 h)) in
      ap (λ (j : DuKey). is_some j.name && (e.1.number == n)) (sym is) ∙ other,
  misses-away k d x n es ne all.1,
)

-- ---- what keeps the counts

pub counted-take : (m : ℕ) (es : Dots) (d : Names) → Falling es → IsCounted es d → IsCounted (take m es) d
counted-take m es d f is e h =
    let was = is e (lookup-take (same_key (dir_key d)) m es e h) in
    (was.0 ∙ ap Some (sym (named-take m es d e f h)), under-take d e.number m es was.1)

pub counted-dropped : (k d : Names) (es : Dots) → IsCounted es d → IsCounted (without (same_key (dir_key k)) es) d
counted-dropped k d es is e h = elim (path_tells k d) [
  | inl same ↦
      let none = lookup-without_same (same_key (dir_key k)) es in
      let out = subst (λ w. lookup (same_key (dir_key w)) (without (same_key (dir_key k)) es) ≡ None) same.1 none in
      let no_ : None ≡ Some e = sym out ∙ h in
      absurd cc
  | inr ne ↦
      let was = is e (sym (lookup-away (dir_key k) (dir_key d) es (λ q. ne.1 (sym (same_dir d k q)))) ∙ h) in
      (was.0 ∙ ap Some (sym (named-without (same_key (dir_key k)) e.number es (misses-dir k e.number es))), under-without d e.number (same_key (dir_key k)) es was.1)
]

-- ---- a listing that is sealed

-- each name with this number is one that was put
abbrev AllPut : (Name → Bool) → ℕ → Dots → Type 0
AllPut P n [] = Unit {0}
AllPut P n (e ∷ es) = (e.1.number ≡ n → (x : Name) → e.0.name ≡ Some x → P x ≡ true) × AllPut P n es

put-below : (P : Name → Bool) (n : ℕ) (es : Dots) → AllBelow n es → AllPut P n es
put-below P n [] all = tt
put-below P n (e ∷ es) all = (λ h x q. let l : e.1.number < n = all.0 in absurd (omega arith), put-below P n es all.1)

put-take : (P : Name → Bool) (n m : ℕ) (es : Dots) → AllPut P n es → AllPut P n (take m es)
put-take P n zero es all = tt
put-take P n (suc m) [] all = tt
put-take P n (suc m) (e ∷ es) all = (all.0, put-take P n m es all.1)

put-without : (P : Name → Bool) (n : ℕ) (test : DuKey → Bool) (es : Dots) → AllPut P n es → AllPut P n (without test es)
put-without P n test [] all = tt
put-without P n test (e ∷ es) all = (elim (test e.0) as (λ y. test e.0 ≡ y → AllPut P n (without test (e ∷ es))) [
  | true ↦ λ t. rw t (put-without P n test es all.1)
  | false ↦ λ t. rw t (all.0, put-without P n test es all.1)
]) refl

put-more : (P Q : Name → Bool) (n : ℕ) (es : Dots) → ((x : Name) → P x ≡ true → Q x ≡ true) → AllPut P n es → AllPut Q n es
put-more P Q n [] more all = tt
put-more P Q n (e ∷ es) more all = (λ h x q. more x (all.0 h x q), put-more P Q n es more all.1)

-- a name that was not put yet has no entry with this number
misses-new : (P : Name → Bool) (d : Names) (x : Name) (n : ℕ) (es : Dots) → P x ≡ false → AllPut P n es → Misses (same_key (name_key d x)) n es
misses-new P d x n [] new all = tt
misses-new P d x n (e ∷ es) new all = (
  λ t.
      let is : name_key d x ≡ e.0 = (key_decides (name_key d x) e.0).0 t in
      let name : e.0.name ≡ Some x = sym (ap (λ (j : DuKey). j.name) is) in
      let other : (e.1.number == n) ≡ false = ne_eqb e.1.number n (λ h. true≢false (sym (all.0 h x name) ∙ new)) in
      ap (λ (j : DuKey). is_some j.name && (e.1.number == n)) (sym is) ∙ other,
  misses-new P d x n es new all.1,
)

-- no name stands twice, and none is one of those before
abbrev pub AreNew : (Name → Bool) → List Name → Type 0
AreNew P [] = Unit {0}
AreNew P (x ∷ xs) = (P x ≡ false) × AreNew (λ y. same_name y x || P y) xs

-- while the names of a listing are put: how many were, and which
pub record Counting (dots : Dots) (l : Listed) (total k : ℕ) (P : Name → Bool) : Type 0 where
  pub falling : Falling dots
  pub others : (d : Names) → d ≢ l.dir → IsCounted dots d
  pub low : (d : Names) (e : DuEntry) → d ≢ l.dir → lookup (same_key (dir_key d)) dots ≡ Some e → e.number < l.number
  pub own : (e : DuEntry) → lookup (same_key (dir_key l.dir)) dots ≡ Some e
      → (e.number ≡ l.number) × (e.count ≡ Some total) × (named l.number dots ≡ k)
  pub mine : AllUnder l.dir l.number dots
  pub puts : AllPut P l.number dots

-- an entry in front that is no name with the number
named-past : (n : ℕ) (g : DuKey × DuEntry) (es : Dots) → is_named n g ≡ false → named n (g ∷ es) ≡ named n es
named-past n g es h = ap (λ b. (if b then 1 else 0) + named n es) h ∙ zero_plus (named n es)
  where
    zero_plus : (k : ℕ) → 0 + k ≡ k
    zero_plus k = omega arith

module _ (size total : ℕ) (l : Listed) where
  counting-put_dir : (old : Dots) → Falling old → AllBelow l.number old → ((d : Names) → IsCounted old d)
      → Counting (put_dir size l total old) l total 0 (λ x. false)
  counting-put_dir old falling below counted =
      let k = dir_key l.dir in
      let E : DuEntry = record { moment = l.moment; time = l.time; number = l.number; count = Some total } in
      let less = without (same_key k) old in
      let rest = take (size - 1) less in
      let falls = falling-without (same_key k) old falling in
      let under : AllBelow l.number rest = below-take l.number (size - 1) less (below-without l.number (same_key k) old below) in
      let before = λ (d : Names) (e : DuEntry) (ne : d ≢ l.dir) (h : lookup (same_key (dir_key d)) ((k, E) ∷ rest) ≡ Some e).
      sym (lookup-past k (dir_key d) E rest (λ q. ne (same_dir d l.dir q))) ∙ h in
      let low = λ (d : Names) (e : DuEntry) (ne : d ≢ l.dir) (h : lookup (same_key (dir_key d)) ((k, E) ∷ rest) ≡ Some e).
      below-lookup l.number (same_key (dir_key d)) rest e under (before d e ne h) in
      record {
        falling = (λ h. under, falling-take (size - 1) less falls);
        others = λ d ne e h.
            let was = counted-take (size - 1) less d falls (counted-dropped l.dir d old (counted d)) e (before d e ne h) in
            let lt : e.number < l.number = low d e ne h in
            (was.0 ∙ ap Some (sym (named-past e.number (k, E) rest refl)), (λ same. absurd (omega arith), was.1));
        low = λ d e ne h. low d e ne h;
        own = λ e h.
            let front = lookup-front k E rest in
            let s : Some E ≡ Some e = sym front ∙ h in
            let same : E ≡ e = cc in
            (sym (ap (λ (w : DuEntry). w.number) same), sym (ap (λ (w : DuEntry). w.count) same), named-past l.number (k, E) rest refl ∙ named-below l.number rest under);
        mine = (λ h. refl, under-below l.dir l.number rest under);
        puts = (λ h x q. let n : None ≡ Some x = q in absurd cc, put-below (λ x. false) l.number rest under);
      }

  counting-put_name : (name : Name) (dots : Dots) (n : ℕ) (P : Name → Bool) → P name ≡ false → Counting dots l total n P
      → Counting (put_name size l name dots) l total (suc n) (λ x. same_name x name || P x)
  counting-put_name name dots n P new so =
      let k = name_key l.dir name in
      let E : DuEntry = record { moment = l.moment; time = l.time; number = l.number; count = None } in
      let less = without (same_key k) dots in
      let rest = take (size - 1) less in
      let falls = falling-without (same_key k) dots so.falling in
      let before = λ (d : Names) (e : DuEntry) (h : lookup (same_key (dir_key d)) ((k, E) ∷ rest) ≡ Some e).
      sym (lookup-past k (dir_key d) E rest (dir≢name d l.dir name)) ∙ h in
      let from = λ (d : Names) (e : DuEntry) (h : lookup (same_key (dir_key d)) ((k, E) ∷ rest) ≡ Some e).
      sym (lookup-away k (dir_key d) dots (dir≢name d l.dir name)) ∙ lookup-take (same_key (dir_key d)) (size - 1) less e (before d e h) in
      record {
        falling = (λ h. let q : Some name ≡ None = h in absurd cc, falling-take (size - 1) less falls);
        others = λ d ne e h.
            let was = so.others d ne e (from d e h) in
            let lt : e.number < l.number = so.low d e ne (from d e h) in
            let past : is_named e.number (k, E) ≡ false = ne_eqb l.number e.number (λ q. omega arith) in (
              was.0 ∙ ap Some (sym (named-past e.number (k, E) rest past ∙ named-take (size - 1) less d e falls (before d e h)
                  ∙ named-without (same_key k) e.number dots (misses-away l.dir d name e.number dots (λ q. ne (sym q)) was.1))),
              (
                λ same. absurd (omega arith),
                under-take d e.number (size - 1) less (under-without d e.number (same_key k) dots was.1),
              ),
            );
        low = λ d e ne h. so.low d e ne (from d e h);
        own = λ e h.
            let was = so.own e (from l.dir e h) in
            let cut : named l.number rest ≡ named l.number less = subst (λ w. named w rest ≡ named w less) was.0 (named-take (size - 1) less l.dir e falls (before l.dir e h)) in
            let gone : named l.number less ≡ n = named-without (same_key k) l.number dots (misses-new P l.dir name l.number dots new so.puts) ∙ was.2 in
            let one : named l.number ((k, E) ∷ rest) ≡ 1 + named l.number rest = ap (λ b. (if b then 1 else 0) + named l.number rest) (eq-eqb l.number l.number refl) in
            (was.0, was.1, omega (arith, one, cut, gone));
        mine = (λ h. refl, under-take l.dir l.number (size - 1) less (under-without l.dir l.number (same_key k) dots so.mine));
        puts = (
          λ h x q.
              let s : Some name ≡ Some x = q in
              let same : x ≡ name = cc in
              ap (λ b. b || P x) ((name_decides x name).1 same),
          put-take (λ x. same_name x name || P x) l.number (size - 1) less
              (put-without (λ x. same_name x name || P x) l.number (same_key k) dots
              (put-more P (λ x. same_name x name || P x) l.number dots (λ x h. either_ (same_name x name) (P x) h) so.puts)),
        );
      }
    where
      either_ : (a b : Bool) → b ≡ true → (a || b) ≡ true
      either_ true b h = refl
      either_ false b h = h

  counting-put_names : (names : List Name) (dots : Dots) (n : ℕ) (P : Name → Bool) → AreNew P names → Counting dots l total n P
      → (Q : Name → Bool) × Counting (put_names size l names dots) l total (n + length names) Q
  counting-put_names [] dots n P new so = (P, subst (λ k. Counting dots l total k P) (omega arith) so)
  counting-put_names (x ∷ xs) dots n P new so =
      let rest = counting-put_names xs (put_name size l x dots) (suc n) (λ y. same_name y x || P y) new.1 (counting-put_name x dots n P new.0 so) in
      (rest.0, subst (λ k. Counting (put_names size l xs (put_name size l x dots)) l total k rest.0) (omega arith) rest.1)

  counted-out : (dots : Dots) (n : ℕ) (P : Name → Bool) → Counting dots l total n P → (d : Names)
      → IsCounted (without (same_key (dir_key l.dir)) dots) d
  counted-out dots n P so d = elim (path_tells l.dir d) [
    | inl same ↦ λ e h.
        let none = lookup-without_same (same_key (dir_key l.dir)) dots in
        let out = subst (λ w. lookup (same_key (dir_key w)) (without (same_key (dir_key l.dir)) dots) ≡ None) same.1 none in
        let no_ : None ≡ Some e = sym out ∙ h in
        absurd cc
    | inr ne ↦ counted-dropped l.dir d dots (so.others d (λ h. ne.1 (sym h)))
  ]

  counted-whole : (dots : Dots) (P : Name → Bool) → Counting dots l total total P → (d : Names) → IsCounted dots d
  counted-whole dots P so d = elim (path_tells l.dir d) [
    | inl same ↦ subst (λ w. IsCounted dots w) same.1 (λ e h.
        let was = so.own e h in
        (was.1 ∙ ap Some (sym (ap (λ w. named w dots) was.0 ∙ was.2)), subst (λ w. AllUnder l.dir w dots) (sym was.0) so.mine))
    | inr ne ↦ so.others d (λ h. ne.1 (sym h))
  ]

new-take : (P : Name → Bool) (n : ℕ) (xs : List Name) → AreNew P xs → AreNew P (take n xs)
new-take P zero xs new = tt
new-take P (suc n) [] new = tt
new-take P (suc n) (x ∷ xs) new = (new.0, new-take (λ y. same_name y x || P y) n xs new.1)

-- a listing of names of which none stands twice leaves the counts right
pub counted-sealed : (size : ℕ) (l : Listed) (names : List Name) (room : ℕ) (old : Dots) → Falling old → AllBelow l.number old
    → ((d : Names) → IsCounted old d) → AreNew (λ x. false) names
    → (d : Names) → IsCounted (sealed size l names room old) d
counted-sealed size l names zero old falling below counted new d = counted-dropped l.dir d old (counted d)
counted-sealed size l names (suc room) old falling below counted new d =
    let total = length names in
    let first = counting-put_dir size total l old falling below counted in
    (elim (nat_lt room (length names)) as (λ b. IsCounted (if b
    then without (same_key (dir_key l.dir)) (put_names size l (take room names) (put_dir size l total old))
    else put_names size l names (put_dir size l total old)) d) [
      | true ↦
          let part = counting-put_names size total l (take room names) (put_dir size l total old) 0 (λ x. false) (new-take (λ x. false) room names new) first in
          counted-out size total l (put_names size l (take room names) (put_dir size l total old)) (0 + length (take room names)) part.0 part.1 d
      | false ↦
          let whole = counting-put_names size total l names (put_dir size l total old) 0 (λ x. false) new first in
          counted-whole size total l (put_names size l names (put_dir size l total old)) whole.0
          (subst (λ k. Counting (put_names size l names (put_dir size l total old)) l total k whole.0) (zero_plus total) whole.1) d
    ])
  where
    zero_plus : (k : ℕ) → 0 + k ≡ k
    zero_plus k = omega arith

-- The dot-underscore entries: numbers fall along the list, and each directory's entry is sound.
use Rattle.std.proofs.Common.{◌≡◌, ◌≢◌, ℕ, zero, suc, ◌<◌, ◌≤◌, ◌+◌, ◌-◌, Bool, true, false, ◌||◌, ◌==◌, List, [], ◌∷◌, length, take, Some, None, if◌then◌else◌, nat_lt, refl, sym, ap, subst, ◌∙◌, arith, inl, inr, ◌⊎◌, IsTrue, Contains}
use Rattle.std.specs.Map.{lookup}
use Rattle.std.specs.Option.{option_map_or}
use Rattle.std.specs.List.{list_any}
use Rattle.std.proofs.lemmas.Bool.{ne_eqb, eq-eqb}
use Rattle.std.proofs.Math.Bool.{or-false}
use Rattle.dav_memory.specs.Trees.{Name, Names, Tree, same_name, is_dot, has_name, time_of}
use Rattle.dav_memory.specs.Entries.{Dots, Listed, without, put, dir_key, name_key, same_key, stands, put_name, put_dir, put_names, sealed}
use Rattle.dav_memory.specs.declared.key.DuKey.{DuKey}
use Rattle.dav_memory.specs.declared.key.DuEntry.{DuEntry}
pub use Rattle.dav_cache.specs.Transparency.{AllBelow, Falling}
use Rattle.dav_cache.specs.Transparency.{SoundAt}
use Rattle.dav_memory.proofs.Keys.{key_decides, key_tells, name_tells, path_tells, path_cases, dir≢name, same_dir, same_member}
use Rattle.dav_memory.proofs.Lists.{lookup-without_same, lookup-without_other, lookup-take}

-- ---- numbers

pub below-more : (n m : ℕ) (es : Dots) → n ≤ m → AllBelow n es → AllBelow m es
below-more n m [] le all = tt
below-more n m (e ∷ es) le all = let h : e.1.number < n = all.0 in (omega arith, below-more n m es le all.1)

pub below-take : (n m : ℕ) (es : Dots) → AllBelow n es → AllBelow n (take m es)
below-take n zero es all = tt
below-take n (suc m) [] all = tt
below-take n (suc m) (e ∷ es) all = (all.0, below-take n m es all.1)

pub below-without : (n : ℕ) (test : DuKey → Bool) (es : Dots) → AllBelow n es → AllBelow n (without test es)
below-without n test [] all = tt
below-without n test (e ∷ es) all = (elim (test e.0) as (λ y. test e.0 ≡ y → AllBelow n (without test (e ∷ es))) [
  | true ↦ λ t. rw t (below-without n test es all.1)
  | false ↦ λ t. rw t (all.0, below-without n test es all.1)
]) refl

pub falling-take : (m : ℕ) (es : Dots) → Falling es → Falling (take m es)
falling-take zero es f = tt
falling-take (suc m) [] f = tt
falling-take (suc m) (e ∷ es) f = (λ h. below-take e.1.number m es (f.0 h), falling-take m es f.1)

pub falling-without : (test : DuKey → Bool) (es : Dots) → Falling es → Falling (without test es)
falling-without test [] f = tt
falling-without test (e ∷ es) f = (elim (test e.0) as (λ y. test e.0 ≡ y → Falling (without test (e ∷ es))) [
  | true ↦ λ t. rw t (falling-without test es f.1)
  | false ↦ λ t. rw t (λ h. below-without e.1.number test es (f.0 h), falling-without test es f.1)
]) refl

pub below-lookup : (n : ℕ) (test : DuKey → Bool) (es : Dots) (e : DuEntry) → AllBelow n es → lookup test es ≡ Some e → e.number < n
below-lookup n test [] e all h = cc
below-lookup n test (f ∷ fs) e all h = (elim (test f.0) as (λ y. test f.0 ≡ y → e.number < n) [
  | true ↦ λ t. let s : Some f.1 ≡ Some e = rw t at h in let same : f.1 ≡ e = cc in subst (λ (x : DuEntry). x.number < n) same all.0
  | false ↦ λ t. below-lookup n test fs e all.1 (rw t at h)
]) refl

-- what has only lesser numbers has nothing with this one
pub stands-below : (es : Dots) (k : DuKey) (n : ℕ) → AllBelow n es → stands es k n ≡ false
stands-below [] k n all = refl
stands-below (f ∷ fs) k n all = (elim (same_key k f.0) as (λ y. same_key k f.0 ≡ y → stands (f ∷ fs) k n ≡ false) [
  | true ↦ λ t. rw t (ne_eqb f.1.number n (λ h. let l : f.1.number < n = all.0 in omega arith))
  | false ↦ λ t. rw t (stands-below fs k n all.1)
]) refl

-- while a directory's entry is not cut off, nothing with its number is
pub stands-take : (m : ℕ) (es : Dots) (d : Names) (e : DuEntry) (x : Name) → Falling es → lookup (same_key (dir_key d)) (take m es) ≡ Some e
    → stands (take m es) (name_key d x) e.number ≡ stands es (name_key d x) e.number
stands-take zero es d e x f h = cc
stands-take (suc m) [] d e x f h = refl
stands-take (suc m) (g ∷ gs) d e x f h =
    (elim (same_key (name_key d x) g.0) as (λ y. same_key (name_key d x) g.0 ≡ y → stands (take (suc m) (g ∷ gs)) (name_key d x) e.number ≡ stands (g ∷ gs) (name_key d x) e.number) [
      | true ↦ λ t. rw t refl
      | false ↦ λ t. rw t (elim (key_tells (dir_key d) g.0) [
        | inl is ↦
            let s : Some g.1 ≡ Some e = rw (is.0) at h in
            let same : g.1 ≡ e = cc in
            let older : AllBelow g.1.number gs = f.0 (ap (λ (k : DuKey). k.name) (sym is.1)) in
            let older' : AllBelow e.number gs = subst (λ (w : DuEntry). AllBelow w.number gs) same older in
            stands-below (take m gs) (name_key d x) e.number (below-take e.number m gs older') ∙ sym (stands-below gs (name_key d x) e.number older')
        | inr is ↦ stands-take m gs d e x f.1 (rw (is.0) at h)
      ])
    ]) refl

-- ---- keys that have nothing to do with a directory

-- neither the directory's own key nor that of a name in it
abbrev pub IsApart : DuKey → Names → Type 0
IsApart k d = k.dir ≢ d

apart_tests : (k j : DuKey) → j ≢ k → (i : DuKey) → same_key j i ≡ true → same_key k i ≡ true → ⊥
apart_tests k j ne i a b = ne ((key_decides j i).0 a ∙ sym ((key_decides k i).0 b))

pub lookup-away : (k j : DuKey) (es : Dots) → j ≢ k → lookup (same_key j) (without (same_key k) es) ≡ lookup (same_key j) es
lookup-away k j es ne = lookup-without_other (same_key j) (same_key k) (apart_tests k j ne) es

pub lookup-past : (k j : DuKey) (e : DuEntry) (es : Dots) → j ≢ k → lookup (same_key j) ((k, e) ∷ es) ≡ lookup (same_key j) es
lookup-past k j e es ne = elim (key_tells j k) [ inl is ↦ absurd (ne is.1) | inr is ↦ rw (is.0) refl ]

pub lookup-front : (k : DuKey) (e : DuEntry) (es : Dots) → lookup (same_key k) ((k, e) ∷ es) ≡ Some e
lookup-front k e es = rw ((key_decides k k).1 refl) refl

pub dir≢ : (k : DuKey) (d : Names) → IsApart k d → dir_key d ≢ k
dir≢ k d ne h = ne (sym (ap (λ (i : DuKey). i.dir) h))

pub name≢ : (k : DuKey) (d : Names) (x : Name) → IsApart k d → name_key d x ≢ k
name≢ k d x ne h = ne (sym (ap (λ (i : DuKey). i.dir) h))

-- what stands after a directory's entry was taken out stood before
pub kept-dropped : (k d : Names) (es : Dots) (e : DuEntry) → lookup (same_key (dir_key d)) (without (same_key (dir_key k)) es) ≡ Some e
    → lookup (same_key (dir_key d)) es ≡ Some e
kept-dropped k d es e h = elim (path_tells k d) [
  | inl is ↦
      let none = lookup-without_same (same_key (dir_key k)) es in
      let out = subst (λ w. lookup (same_key (dir_key w)) (without (same_key (dir_key k)) es) ≡ None) is.1 none in
      let no : None ≡ Some e = sym out ∙ h in
      absurd cc
  | inr is ↦ sym (lookup-away (dir_key k) (dir_key d) es (λ q. is.1 (sym (same_dir d k q)))) ∙ h
]

module _ (trees : List Tree) where
  pub sound-take : (m : ℕ) (es : Dots) (d : Names) → Falling es → SoundAt trees es d → SoundAt trees (take m es) d
  sound-take m es d f sound e h tree known time x dot =
      sound e (lookup-take (same_key (dir_key d)) m es e h) tree known time x dot ∙ sym (stands-take m es d e x f h)

  pub sound-without : (k : DuKey) (es : Dots) (d : Names) → IsApart k d → SoundAt trees es d → SoundAt trees (without (same_key k) es) d
  sound-without k es d ne sound e h tree known time x dot =
      sound e (sym (lookup-away k (dir_key d) es (dir≢ k d ne)) ∙ h) tree known time x dot
      ∙ ap (λ o. option_map_or (λ (w : DuEntry). w.number == e.number) o false) (sym (lookup-away k (name_key d x) es (name≢ k d x ne)))

  pub sound-past : (k : DuKey) (f : DuEntry) (es : Dots) (d : Names) → IsApart k d → SoundAt trees es d → SoundAt trees ((k, f) ∷ es) d
  sound-past k f es d ne sound e h tree known time x dot =
      sound e (sym (lookup-past k (dir_key d) f es (dir≢ k d ne)) ∙ h) tree known time x dot
      ∙ ap (λ o. option_map_or (λ (w : DuEntry). w.number == e.number) o false) (sym (lookup-past k (name_key d x) f es (name≢ k d x ne)))

  pub sound-put : (size : ℕ) (k : DuKey) (f : DuEntry) (es : Dots) (d : Names) → IsApart k d → Falling es → SoundAt trees es d
      → SoundAt trees (put size (same_key k) k f es) d
  sound-put size k f es d ne falling sound =
      sound-past k f (take (size - 1) (without (same_key k) es)) d ne
      (sound-take (size - 1) (without (same_key k) es) d (falling-without (same_key k) es falling) (sound-without k es d ne sound))

  -- where the directory's entry is taken out nothing is said of it
  pub sound-dropped : (k d : Names) (es : Dots) → SoundAt trees es d → (k ≡ d) ⊎ (k ≢ d) → SoundAt trees (without (same_key (dir_key k)) es) d
  sound-dropped k d es sound (inl same) = λ e h tree known time x dot.
      let none = lookup-without_same (same_key (dir_key k)) es in
      let is = subst (λ w. lookup (same_key (dir_key w)) (without (same_key (dir_key k)) es) ≡ None) same none in
      cc
  sound-dropped k d es sound (inr ne) = sound-without (dir_key k) es d ne sound

-- one number belongs to one directory and one time
pub one-number : (es : Dots) (d d' : Names) (e e' : DuEntry) → Falling es → lookup (same_key (dir_key d)) es ≡ Some e
    → lookup (same_key (dir_key d')) es ≡ Some e' → e'.number ≡ e.number → (d' ≡ d) × (e'.time ≡ e.time)
one-number [] d d' e e' f h h' same = cc
one-number (g ∷ gs) d d' e e' f h h' same = elim (key_tells (dir_key d) g.0) [
  | inl is ↦
      let s : Some g.1 ≡ Some e = rw (is.0) at h in
      let first : g.1 ≡ e = cc in
      let older : AllBelow g.1.number gs = f.0 (ap (λ (k : DuKey). k.name) (sym is.1)) in
      elim (key_tells (dir_key d') g.0) [
        | inl is' ↦
            let s' : Some g.1 ≡ Some e' = rw (is'.0) at h' in
            let first' : g.1 ≡ e' = cc in
            (same_dir d' d (is'.1 ∙ sym is.1), ap (λ (w : DuEntry). w.time) (sym first' ∙ first))
        | inr is' ↦
            let less = below-lookup g.1.number (same_key (dir_key d')) gs e' older (rw (is'.0) at h') in
            let n : g.1.number ≡ e.number = ap (λ (w : DuEntry). w.number) first in
            absurd (omega arith)
      ]
  | inr is ↦ elim (key_tells (dir_key d') g.0) [
    | inl is' ↦
        let s' : Some g.1 ≡ Some e' = rw (is'.0) at h' in
        let first' : g.1 ≡ e' = cc in
        let older : AllBelow g.1.number gs = f.0 (ap (λ (k : DuKey). k.name) (sym is'.1)) in
        let less = below-lookup g.1.number (same_key (dir_key d)) gs e older (rw (is.0) at h) in
        let n : g.1.number ≡ e'.number = ap (λ (w : DuEntry). w.number) first' in
        absurd (omega arith)
    | inr is' ↦ one-number gs d d' e e' f.1 (rw (is.0) at h) (rw (is'.0) at h') same
  ]
]

or_swap : (a b c : Bool) → (a || (b || c)) ≡ ((b || a) || c)
or_swap true true c = refl
or_swap true false c = refl
or_swap false true c = refl
or_swap false false c = refl

-- ---- a listing that is sealed

-- while the names of a listing are put: what stands, where P tells the names put so far
pub record Sealing (trees : List Tree) (old dots : Dots) (l : Listed) (P : Name → Bool) : Type 0 where
  pub falling : Falling dots
  pub below : AllBelow (l.number + 1) dots
  pub others : (d : Names) → d ≢ l.dir → SoundAt trees dots d
  pub part : (e : DuEntry) → lookup (same_key (dir_key l.dir)) dots ≡ Some e
      → (e.number ≡ l.number) × (e.time ≡ l.time) × ((x : Name) → stands dots (name_key l.dir x) l.number ≡ P x)
  pub came : (d : Names) (e : DuEntry) → lookup (same_key (dir_key d)) dots ≡ Some e
      → (lookup (same_key (dir_key d)) old ≡ Some e) ⊎ (e.number ≡ l.number)

module _ (trees : List Tree) (size : ℕ) (old : Dots) (l : Listed) where
  pub sealing-put_dir : (count : ℕ) → Falling old → AllBelow l.number old → ((d : Names) → SoundAt trees old d)
      → Sealing trees old (put_dir size l count old) l (λ x. false)
  sealing-put_dir count falling below sound =
      let k = dir_key l.dir in
      let E : DuEntry = record { moment = l.moment; time = l.time; number = l.number; count = Some count } in
      let rest = take (size - 1) (without (same_key k) old) in
      let low : AllBelow l.number rest = below-take l.number (size - 1) (without (same_key k) old) (below-without l.number (same_key k) old below) in
      record {
        falling = (λ h. low, falling-take (size - 1) (without (same_key k) old) (falling-without (same_key k) old falling));
        below = (omega arith, below-more l.number (l.number + 1) rest (omega arith) low);
        others = λ d ne. sound-put trees size k E old d (λ h. ne (sym h)) falling (sound d);
        part = λ e h.
            let front = lookup-front k E rest in
            let s : Some E ≡ Some e = sym front ∙ h in
            let same : E ≡ e = cc in (
              sym (ap (λ (w : DuEntry). w.number) same),
              sym (ap (λ (w : DuEntry). w.time) same),
              λ x.
                  ap (λ o. option_map_or (λ (w : DuEntry). w.number == l.number) o false) (lookup-past k (name_key l.dir x) E rest (λ q. dir≢name l.dir l.dir x (sym q)))
                  ∙ stands-below rest (name_key l.dir x) l.number low,
            );
        came = λ d e h. elim (key_tells (dir_key d) k) [
          | inl is ↦
              let front = lookup-front k E rest in
              let s : Some E ≡ Some e = sym front ∙ (subst (λ j. lookup (same_key j) ((k, E) ∷ rest) ≡ Some e) is.1 h) in
              let same : E ≡ e = cc in
              inr (sym (ap (λ (w : DuEntry). w.number) same))
          | inr is ↦ inl (sym (lookup-away k (dir_key d) old is.1) ∙ lookup-take (same_key (dir_key d)) (size - 1) (without (same_key k) old) e (sym (lookup-past k (dir_key d) E rest is.1) ∙ h))
        ];
      }

  pub sealing-put_name : (name : Name) (dots : Dots) (P : Name → Bool) → Sealing trees old dots l P
      → Sealing trees old (put_name size l name dots) l (λ x. same_name x name || P x)
  sealing-put_name name dots P so =
      let k = name_key l.dir name in
      let E : DuEntry = record { moment = l.moment; time = l.time; number = l.number; count = None } in
      let less = without (same_key k) dots in
      let rest = take (size - 1) less in
      let falls : Falling less = falling-without (same_key k) dots so.falling in
      let before = λ (d : Names) (e : DuEntry) (h : lookup (same_key (dir_key d)) ((k, E) ∷ rest) ≡ Some e).
      sym (lookup-past k (dir_key d) E rest (dir≢name d l.dir name)) ∙ h in
      let from = λ (d : Names) (e : DuEntry) (h : lookup (same_key (dir_key d)) ((k, E) ∷ rest) ≡ Some e).
      sym (lookup-away k (dir_key d) dots (dir≢name d l.dir name)) ∙ lookup-take (same_key (dir_key d)) (size - 1) less e (before d e h) in
      record {
        falling = (λ h. let n : Some name ≡ None = h in absurd cc, falling-take (size - 1) less falls);
        below = (omega arith, below-take (l.number + 1) (size - 1) less (below-without (l.number + 1) (same_key k) dots so.below));
        others = λ d ne. sound-put trees size k E dots d (λ h. ne (sym h)) so.falling (so.others d ne);
        part = λ e h.
            let was = so.part e (from l.dir e h) in (
              was.0,
              was.1,
              λ x. elim (name_tells x name) [
                | inl is ↦
                    let at = lookup-front k E rest in
                    let at' = subst (λ y. lookup (same_key (name_key l.dir y)) ((k, E) ∷ rest) ≡ Some E) (sym is.1) at in
                    ap (λ o. option_map_or (λ (w : DuEntry). w.number == l.number) o false) at' ∙ eq-eqb l.number l.number refl ∙ sym (ap (λ b. b || P x) is.0)
                | inr is ↦
                    ap (λ o. option_map_or (λ (w : DuEntry). w.number == l.number) o false) (lookup-past k (name_key l.dir x) E rest (λ q. is.1 (same_member l.dir l.dir x name q)))
                    ∙ subst (λ n. stands rest (name_key l.dir x) n ≡ stands less (name_key l.dir x) n) was.0 (stands-take (size - 1) less l.dir e x falls (before l.dir e h))
                    ∙ ap (λ o. option_map_or (λ (w : DuEntry). w.number == l.number) o false) (lookup-away k (name_key l.dir x) dots (λ q. is.1 (same_member l.dir l.dir x name q)))
                    ∙ was.2 x
                    ∙ sym (ap (λ b. b || P x) is.0)
              ],
            );
        came = λ d e h. so.came d e (from d e h);
      }

  pub sealing-put_names : (names : List Name) (dots : Dots) (P : Name → Bool) → Sealing trees old dots l P
      → Sealing trees old (put_names size l names dots) l (λ x. list_any (same_name x) names || P x)
  sealing-put_names [] dots P so = so
  sealing-put_names (name ∷ names) dots P so =
      let all = sealing-put_names names (put_name size l name dots) (λ x. same_name x name || P x) (sealing-put_name name dots P so) in
      record {
        falling = all.falling;
        below = all.below;
        others = all.others;
        part = λ e h. let was = all.part e h in (was.0, was.1, λ x. was.2 x ∙ or_swap (list_any (same_name x) names) (same_name x name) (P x));
        came = all.came;
      }

  -- what a sealed listing leaves
  pub record Seals (dots : Dots) : Type 0 where
    pub falling : Falling dots
    pub below : AllBelow (l.number + 1) dots
    pub sound : (d : Names) → SoundAt trees dots d
    pub came : (d : Names) (e : DuEntry) → lookup (same_key (dir_key d)) dots ≡ Some e
        → (lookup (same_key (dir_key d)) old ≡ Some e) ⊎ (e.number ≡ l.number)

  -- where memory was refused, the directory's entry is taken out
  seals-out : (dots : Dots) (P : Name → Bool) → Sealing trees old dots l P → Seals (without (same_key (dir_key l.dir)) dots)
  seals-out dots P so = record {
    falling = falling-without (same_key (dir_key l.dir)) dots so.falling;
    below = below-without (l.number + 1) (same_key (dir_key l.dir)) dots so.below;
    sound = λ d. elim (path_tells l.dir d) [
      | inl is ↦ λ e h tree known time x dot.
          let none = lookup-without_same (same_key (dir_key l.dir)) dots in
          let out = subst (λ w. lookup (same_key (dir_key w)) (without (same_key (dir_key l.dir)) dots) ≡ None) is.1 none in
          cc
      | inr is ↦ sound-without trees (dir_key l.dir) dots d is.1 (so.others d (λ h. is.1 (sym h)))
    ];
    came = λ d e h. elim (path_tells l.dir d) [
      | inl is ↦
          let none = lookup-without_same (same_key (dir_key l.dir)) dots in
          let out = subst (λ w. lookup (same_key (dir_key w)) (without (same_key (dir_key l.dir)) dots) ≡ None) is.1 none in
          let no : None ≡ Some e = sym out ∙ h in
          absurd cc
      | inr is ↦ so.came d e (sym (lookup-away (dir_key l.dir) (dir_key d) dots (λ q. is.1 (sym (same_dir d l.dir q)))) ∙ h)
    ];
  }

  -- the names are those of the directory in each tree that has it with the listing's time
  abbrev pub AreNames : List Name → Type 0
  AreNames names = (tree : Tree) → Contains trees tree → time_of tree l.dir ≡ Some l.time → (x : Name) → IsTrue (is_dot x) → has_name tree l.dir x ≡ list_any (same_name x) names

  seals-whole : (names : List Name) (dots : Dots) → AreNames names → Sealing trees old dots l (λ x. list_any (same_name x) names || false)
      → Seals dots
  seals-whole names dots are so = record {
    falling = so.falling;
    below = so.below;
    sound = λ d. elim (path_tells l.dir d) [
      | inl is ↦ subst (λ w. SoundAt trees dots w) is.1 (λ e h tree known time x dot.
          let part = so.part e h in
          are tree known (time ∙ ap Some part.1) x dot
          ∙ sym (subst (λ n. stands dots (name_key l.dir x) n ≡ list_any (same_name x) names) (sym part.0) (part.2 x ∙ or-false (list_any (same_name x) names))))
      | inr is ↦ so.others d (λ h. is.1 (sym h))
    ];
    came = so.came;
  }

  pub seals : (names : List Name) (room : ℕ) → Falling old → AllBelow l.number old → ((d : Names) → SoundAt trees old d) → AreNames names
      → Seals (sealed size l names room old)
  seals names zero falling below sound are = record {
    falling = falling-without (same_key (dir_key l.dir)) old falling;
    below = below-without (l.number + 1) (same_key (dir_key l.dir)) old (below-more l.number (l.number + 1) old (omega arith) below);
    sound = λ d. sound-dropped trees l.dir d old (sound d) (path_cases l.dir d);
    came = λ d e h. inl (kept-dropped l.dir d old e h);
  }
  seals names (suc room) falling below sound are =
      let first = sealing-put_dir (length names) falling below sound in
      (elim (nat_lt room (length names)) as (λ b. Seals (if b
      then without (same_key (dir_key l.dir)) (put_names size l (take room names) (put_dir size l (length names) old))
      else put_names size l names (put_dir size l (length names) old))) [
        | true ↦ seals-out (put_names size l (take room names) (put_dir size l (length names) old)) _ (sealing-put_names (take room names) (put_dir size l (length names) old) (λ x. false) first)
        | false ↦ seals-whole names (put_names size l names (put_dir size l (length names) old)) are (sealing-put_names names (put_dir size l (length names) old) (λ x. false) first)
      ])

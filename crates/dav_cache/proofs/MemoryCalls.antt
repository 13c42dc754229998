-- What a memory with its own two caches knows after each call, by what it knew before.
use Rattle.std.proofs.Common.{◌≡◌, ◌≢◌, ℕ, zero, suc, ◌+◌, ◌-◌, Bool, true, false, not, ◌||◌, ◌==◌, List, [], ◌∷◌, length, take, Option, Some, None, Result, Ok, Err, IfOk, OnOk, IfSome, IsTrue, if◌then◌else◌, nat_lt, refl, sym, ap, subst, ◌∙◌, inl, inr, ◌⊎◌}
use Rattle.std.specs.Option.{option_map_or}
use Rattle.std.specs.List.{list_any}
use Rattle.std.specs.Map.{lookup}
use Rattle.std.proofs.lemmas.Bool.{false≢true, true≢false, and_parts, not-true}
use Rattle.std.proofs.Math.Bool.{or-false}
use Rattle.dav_io.specs.declared.clock.Moment.{Moment}
use Rattle.dav_core.specs.declared.handle.Meta.{Meta}
use Rattle.dav_core.specs.declared.handle.DiskError.{DiskError}
use Rattle.dav_core.specs.Disk.{DiskState, Metas}
use Rattle.dav_core.specs.Tree.{is_dir}
use Rattle.dav_memory.specs.declared.sealed.Sealed.{Sealed}
use Rattle.dav_memory.specs.declared.sealed.Sealed.TheVariants.{Done, Last, NoMemory}
use Rattle.dav_memory.specs.Trees.{Name, Names, FileTime, same_name, same_path, fold_path}
use Rattle.dav_memory.specs.Entries.{Dots, Listed, PathCache, DotCache, AreCounted, Falling, without, put, purged, inserted, is_old_dot, is_old_path, dir_key, name_key, same_key, stands, concludes, is_time, put_name, put_dir, put_names, sealed}
use Rattle.dav_memory.specs.declared.key.DuKey.{DuKey}
use Rattle.dav_memory.specs.declared.key.DuEntry.{DuEntry}
use Rattle.dav_memory.specs.declared.entry.PathEntry.{PathEntry}
use Rattle.dav_memory.specs.Calls.{LooksBy, Denies, Seals, has_time, dropped, sealed_within}
use Rattle.dav_memory.specs.Memory.{OwnedState, memory_of, known_at, known_by, WasKnown, LearnsNothing, AsksMeta, AsksOnceBy, Denied, GetsBy, Inserts, Negates, SealsIn, Purges}
use Rattle.dav_memory.proofs.Keys.{time_decides, is_time_at, time_tells, path_tells, dir≢name, same_dir}
use Rattle.dav_memory.proofs.Lists.{lookup-without_same, lookup-take, purged-take}
use Rattle.dav_cache.proofs.Dots.{IsApart, dir≢, name≢, lookup-away, lookup-past, stands-take, falling-without, Sealing, sealing-put_dir, sealing-put_name, sealing-put_names}
use Rattle.dav_cache.proofs.Facts.{nothing_known}

-- ---- answers that are Ok

pub if_ok : {T E : Type 0} (result : Result T E) (P Q : T → Type 0) → ((x : T) → P x → Q x) → IfOk result P → IfOk result Q
if_ok (Ok x) P Q f h = f x h
if_ok (Err e) P Q f h = h

pub if_both : {T E : Type 0} (result : Result T E) (P Q R : T → Type 0) → ((x : T) → P x → Q x → R x) → IfOk result P → IfOk result Q → IfOk result R
if_both (Ok x) P Q R f h k = f x h k
if_both (Err e) P Q R f h k = h

pub on_ok : {T E : Type 0} (result : Result T E) (P Q : Type 0) → (P → Q) → OnOk result P → OnOk result Q
on_ok (Ok x) P Q f h = f h
on_ok (Err e) P Q f h = h

-- ---- a directory's entry with its names

-- where the directory's entry stands, it stood, and the names that stand with its number are the same
abbrev pub SameFor : Names → Dots → Dots → Type 0
SameFor d old new = (e : DuEntry) → lookup (same_key (dir_key d)) new ≡ Some e → (lookup (same_key (dir_key d)) old ≡ Some e) × ((x : Name) → stands new (name_key d x) e.number ≡ stands old (name_key d x) e.number)

pub same-self : (d : Names) (es : Dots) → SameFor d es es
same-self d es e h = (h, λ x. refl)

pub same-then : (d : Names) (a b c : Dots) → SameFor d a b → SameFor d b c → SameFor d a c
same-then d a b c p q e h = let second = q e h in let first = p e second.0 in (first.0, λ x. second.1 x ∙ first.1 x)

pub same-take : (d : Names) (n : ℕ) (es : Dots) → Falling es → SameFor d es (take n es)
same-take d n es falls e h = (lookup-take (same_key (dir_key d)) n es e h, λ x. stands-take n es d e x falls h)

by_number : (n : ℕ) (o p : Option DuEntry) → o ≡ p
    → option_map_or (λ (w : DuEntry). w.number == n) o false ≡ option_map_or (λ (w : DuEntry). w.number == n) p false
by_number n o p h = ap (λ q. option_map_or (λ (w : DuEntry). w.number == n) q false) h

same-without : (d : Names) (k : DuKey) (es : Dots) → dir_key d ≢ k → ((x : Name) → name_key d x ≢ k) → SameFor d es (without (same_key k) es)
same-without d k es nd nx e h = (sym (lookup-away k (dir_key d) es nd) ∙ h, λ x. by_number e.number _ _ (lookup-away k (name_key d x) es (nx x)))

same-past : (d : Names) (k : DuKey) (f : DuEntry) (es : Dots) → IsApart k d → SameFor d es ((k, f) ∷ es)
same-past d k f es ne e h =
    (sym (lookup-past k (dir_key d) f es (dir≢ k d ne)) ∙ h, λ x. by_number e.number _ _ (lookup-past k (name_key d x) f es (name≢ k d x ne)))

pub same-put : (d : Names) (size : ℕ) (k : DuKey) (f : DuEntry) (es : Dots) → IsApart k d → Falling es → SameFor d es (put size (same_key k) k f es)
same-put d size k f es ne falls =
    let less = without (same_key k) es in
    same-then d es less (put size (same_key k) k f es) (same-without d k es (dir≢ k d ne) (λ x. name≢ k d x ne))
    (same-then d less (take (size - 1) less) (put size (same_key k) k f es) (same-take d (size - 1) less (falling-without (same_key k) es falls)) (same-past d k f (take (size - 1) less) ne))

-- taking a directory's entry out leaves its names' entries, and those of all other directories
pub same-dropped : (d k : Names) (es : Dots) → SameFor d es (without (same_key (dir_key k)) es)
same-dropped d k es e h = elim (path_tells k d) [
  | inl is ↦
      let none = lookup-without_same (same_key (dir_key k)) es in
      let out = subst (λ w. lookup (same_key (dir_key w)) (without (same_key (dir_key k)) es) ≡ None) is.1 none in
      let no_ : None ≡ Some e = sym out ∙ h in
      absurd cc
  | inr ne ↦ same-without d (dir_key k) es (λ q. ne.1 (sym (same_dir d k q))) (λ x q. dir≢name k d x (sym q)) e h
]

-- ---- a listing that is sealed

module _ (size : ℕ) (old : Dots) (l : Listed) (kept : AreCounted l.number old) where
  first : (count : ℕ) → Sealing [] old (put_dir size l count old) l (λ x. false)
  first count = sealing-put_dir [] size old l count kept.falling kept.below (λ d e h tree known. absurd (nothing_known tree known))

  puts-others : (d : Names) (names : List Name) (es : Dots) (P : Name → Bool) → d ≢ l.dir → Sealing [] old es l P
      → SameFor d es (put_names size l names es)
  puts-others d [] es P ne so = same-self d es
  puts-others d (x ∷ names) es P ne so =
      same-then d es (put_name size l x es) (put_names size l (x ∷ names) es)
      (same-put d size (name_key l.dir x) (record { moment = l.moment; time = l.time; number = l.number; count = None }) es (λ h. ne (sym h)) so.falling)
      (puts-others d names (put_name size l x es) (λ y. same_name y x || P y) ne (sealing-put_name [] size old l x es P so))

  all-others : (d : Names) (names : List Name) (count : ℕ) → d ≢ l.dir → SameFor d old (put_names size l names (put_dir size l count old))
  all-others d names count ne =
      same-then d old (put_dir size l count old) (put_names size l names (put_dir size l count old))
      (same-put d size (dir_key l.dir) (record { moment = l.moment; time = l.time; number = l.number; count = Some count }) old (λ h. ne (sym h)) kept.falling)
      (puts-others d names (put_dir size l count old) (λ x. false) ne (first count))

  -- all other directories keep what stands of them
  pub sealed-others : (d : Names) (names : List Name) (room : ℕ) → d ≢ l.dir → SameFor d old (sealed size l names room old)
  sealed-others d names zero ne = same-dropped d l.dir old
  sealed-others d names (suc room) ne =
      let some = put_names size l (take room names) (put_dir size l (length names) old) in
      (elim (nat_lt room (length names)) as (λ b. SameFor d old (if b then without (same_key (dir_key l.dir)) some else put_names size l names (put_dir size l (length names) old))) [
        | true ↦ same-then d old some (without (same_key (dir_key l.dir)) some) (all-others d (take room names) (length names) ne) (same-dropped d l.dir some)
        | false ↦ all-others d names (length names) ne
      ])

  gone : (es : Dots) (e : DuEntry) {P : Type 0} → lookup (same_key (dir_key l.dir)) (without (same_key (dir_key l.dir)) es) ≡ Some e → P
  gone es e h = let none : None ≡ Some e = sym (lookup-without_same (same_key (dir_key l.dir)) es) ∙ h in absurd cc

  abbrev pub IsOwn : List Name → Dots → Type 0
  IsOwn names es = (e : DuEntry) → lookup (same_key (dir_key l.dir)) es ≡ Some e → (e.number ≡ l.number) × (e.time ≡ l.time) × ((x : Name) → stands es (name_key l.dir x) e.number ≡ list_any (same_name x) names)

  -- where the directory's entry stands after the seal, the names are those of the listing
  pub sealed-own : (names : List Name) (room : ℕ) → IsOwn names (sealed size l names room old)
  sealed-own names zero = λ e h. gone old e h
  sealed-own names (suc room) =
      let start = put_dir size l (length names) old in
      let some = put_names size l (take room names) start in
      let all = put_names size l names start in
      (elim (nat_lt room (length names)) as (λ b. IsOwn names (if b then without (same_key (dir_key l.dir)) some else all)) [
        | true ↦ λ e h. gone some e h
        | false ↦ λ e h.
            let so = sealing-put_names [] size old l names start (λ x. false) (first (length names)) in
            let part = so.part e h in
            (part.0, part.1, λ x. subst (λ n. stands all (name_key l.dir x) n ≡ list_any (same_name x) names) (sym part.0) (part.2 x ∙ or-false (list_any (same_name x) names)))
      ])

-- ---- knowledge

known-at : (dots : Dots) (dir : Names) (time : FileTime) (o : Option DuEntry) (has : Name → Bool) → lookup (same_key (dir_key dir)) dots ≡ o
    → known_at dots dir time o ≡ Some has
    → (e : DuEntry) × (lookup (same_key (dir_key dir)) dots ≡ Some e) × (e.time ≡ time) × ((x : Name) → has x ≡ stands dots (name_key dir x) e.number)
known-at dots dir time None has is h = cc
known-at dots dir time (Some e) has is h = elim (time_tells e.time time) [
  | inl same ↦
      let k : Some (λ x. stands dots (name_key dir x) e.number) ≡ Some has = rw (same.0) at h in
      let f : (λ x. stands dots (name_key dir x) e.number) ≡ has = cc in
      (e, is, same.1, λ x. sym (ap (λ (g : Name → Bool). g x) f))
  | inr other ↦ let k : None ≡ Some has = rw (other.0) at h in absurd cc
]

known-cases : (dots : Dots) (dir : Names) (time : FileTime) (has : Name → Bool) → known_by dots dir time ≡ Some has
    → (e : DuEntry) × (lookup (same_key (dir_key dir)) dots ≡ Some e) × (e.time ≡ time) × ((x : Name) → has x ≡ stands dots (name_key dir x) e.number)
known-cases dots dir time has h = known-at dots dir time (lookup (same_key (dir_key dir)) dots) has refl h

known-entry : (dots : Dots) (dir : Names) (time : FileTime) (e : DuEntry) → lookup (same_key (dir_key dir)) dots ≡ Some e → e.time ≡ time
    → known_by dots dir time ≡ Some (λ x. stands dots (name_key dir x) e.number)
known-entry dots dir time e is same =
    ap (known_at dots dir time) is ∙ ap (λ b. if b then Some (λ x. stands dots (name_key dir x) e.number) else None) ((time_decides e.time time).1 same)

was-known : (old new : OwnedState) (dir : Names) (time : FileTime) (has : Name → Bool) → SameFor dir old.dots.entries new.dots.entries
    → known_by new.dots.entries dir time ≡ Some has → WasKnown (memory_of old) dir time has
was-known old new dir time has same h =
    let (e, is, at, names) = known-cases new.dots.entries dir time has h in
    let was = same e is in
    (λ x. stands old.dots.entries (name_key dir x) e.number, known-entry old.dots.entries dir time e was.0 at, λ x. names x ∙ was.1 x)

learns : (old new : OwnedState) → ((d : Names) → SameFor d old.dots.entries new.dots.entries) → LearnsNothing (memory_of old) (memory_of new)
learns old new same = record { known = λ d t has h. was-known old new d t has (same d) h; same_open = λ d t. refl }

same_dots : (old new : OwnedState) → new.dots ≡ old.dots → (d : Names) → SameFor d old.dots.entries new.dots.entries
same_dots old new is d = subst (λ (c : DotCache). SameFor d old.dots.entries c.entries) (sym is) (same-self d old.dots.entries)

-- ---- the calls

module _ {A : Type 0} (call : DiskState → Names → Result A DiskError → DiskState → Type 0) where
  -- the answer of a call stood at its path
  abbrev Stood : DiskState → DiskState → Option (Names × A) → Type 0
  Stood s t found = IfSome found (λ f. call s f.0 (Ok f.1) t)

  -- where none was found the call was refused, or not made
  abbrev Missed : DiskState → DiskState → Option (Names × A) → Type 0
  Missed s t found = found ≡ None → (t ≡ s) ⊎ ((path : Names) × (error : DiskError) × call s path (Err error) t)

  looks-asks : (o : Option PathEntry) (a : PathCache) (path : Names) (s : DiskState) (found : Option (Names × A)) (b : PathCache) (t : DiskState)
      → LooksBy call o a path s found b t → AsksOnceBy call s t × Stood s t found × Missed s t found
  looks-asks None a path s found b t (none, same, after) = (inl after, subst (Stood s t) (sym none) tt, λ e. inl after)
  looks-asks (Some e) a path s found b t (Ok answer, called, is, left) =
      (inr (e.path, Ok answer, called), subst (Stood s t) (sym is) called, λ none. let some : None ≡ Some (e.path, answer) = sym none ∙ is in absurd cc)
  looks-asks (Some e) a path s found b t (Err error, called, is, left) =
      (inr (e.path, Err error, called), subst (Stood s t) (sym is) tt, λ none. inr (e.path, error, called))

  pub owned_gets : (old new : OwnedState) (path : Names) (s : DiskState) (found : Option (Names × A)) (t : DiskState)
      → LooksBy call (lookup (same_path (fold_path path)) old.paths.entries) old.paths path s found new.paths t
      → IfSome found (λ f. fold_path f.0 ≡ fold_path path) → new.dots ≡ old.dots → GetsBy call (memory_of old) path s found (memory_of new) t
  owned_gets old new path s found t looks folds dots =
      let asks = looks-asks (lookup (same_path (fold_path path)) old.paths.entries) old.paths path s found new.paths t looks in
      record { asks = asks.0; stood = asks.1; refused = asks.2; folds = folds; paths = looks; dots = ap Some dots; learns = learns old new (same_dots old new dots) }

pub owned_inserts : (old new : OwnedState) (path : Names) (now : Moment)
    → new.paths ≡ record old.paths { entries = inserted old.paths.size path now old.paths.entries } → new.dots ≡ old.dots
    → Inserts (memory_of old) path now (memory_of new)
owned_inserts old new path now paths dots = record { paths = paths; dots = ap Some dots; learns = learns old new (same_dots old new dots) }

has-time : (time : FileTime) (answer : Result Meta DiskError) → has_time time answer ≡ true
    → (meta : Meta) × (answer ≡ Ok meta) × (is_dir meta.kind ≡ true) × (meta.modified ≡ Some time)
has-time time (Ok meta) h = let parts = and_parts (is_dir meta.kind) (is_time time meta.modified) h in (meta, refl, parts.0, is_time_at time meta.modified parts.1)
has-time time (Err error) h = absurd (false≢true h)

denies-asks : (o : Option DuEntry) (a : DotCache) (dir : Names) (name : Name) (s : DiskState) (absent : Bool) (b : DotCache) (t : DiskState)
    → Denies o a dir name s absent b t → AsksMeta s t
denies-asks None a dir name s absent b t (not_, same, after) = inl after
denies-asks (Some e) a dir name s absent b t (answer, metas, is, left) = inr (dir, answer, metas)

denies-dots : (o : Option DuEntry) (a : DotCache) (dir : Names) (name : Name) (s : DiskState) (absent : Bool) (b : DotCache) (t : DiskState)
    → Denies o a dir name s absent b t → (d : Names) → SameFor d a.entries b.entries
denies-dots None a dir name s absent b t (not_, same, after) d =
    subst (λ (c : DotCache). SameFor d a.entries c.entries) (sym same) (same-self d a.entries)
denies-dots (Some e) a dir name s absent b t (answer, metas, is, left) d =
    subst (λ (c : DotCache). SameFor d a.entries c.entries) (sym left)
    (elim (has_time e.time answer) as (λ y. SameFor d a.entries (if y then a else dropped dir a).entries) [ true ↦ same-self d a.entries | false ↦ same-dropped d dir a.entries ])

denies-denied : (old : OwnedState) (o : Option DuEntry) (dir : Names) (name : Name) (s : DiskState) (absent : Bool) (b : DotCache) (t : DiskState)
    → lookup (same_key (dir_key dir)) old.dots.entries ≡ o
    → Denies o old.dots dir name s absent b t → IsTrue absent → Denied (memory_of old) dir name s t
denies-denied old None dir name s absent b t is (not_, same, after) yes_ = absurd (true≢false (sym yes_ ∙ not_))
denies-denied old (Some e) dir name s absent b t is (answer, metas, tells, left) yes_ =
    let es = old.dots.entries in
    let parts = and_parts (has_time e.time answer) (concludes es dir name e.number) (sym tells ∙ yes_) in
    let (meta, ok, kind, time) = has-time e.time answer parts.0 in
    let tests = and_parts (stands es (dir_key dir) e.number) (not (stands es (name_key dir name) e.number)) parts.1 in (
      meta,
      e.time,
      subst (λ r. Metas s dir r t) ok metas,
      kind,
      time,
      inl (λ x. stands es (name_key dir x) e.number, known-entry es dir e.time e is refl, not-true (stands es (name_key dir name) e.number) tests.1),
    )

pub owned_negates : (old new : OwnedState) (dir : Names) (name : Name) (s : DiskState) (absent : Bool) (t : DiskState)
    → Denies (lookup (same_key (dir_key dir)) old.dots.entries) old.dots dir name s absent new.dots t → new.paths ≡ old.paths
    → Negates (memory_of old) dir name s absent (memory_of new) t
owned_negates old new dir name s absent t denies paths =
    let o = lookup (same_key (dir_key dir)) old.dots.entries in
    record {
      asks = denies-asks o old.dots dir name s absent new.dots t denies;
      denied = λ yes_. denies-denied old o dir name s absent new.dots t refl denies yes_;
      dots = denies;
      paths = ap Some paths;
      learns = learns old new (denies-dots o old.dots dir name s absent new.dots t denies);
    }

-- what a seal leaves known, by how it ended
abbrev SealKnown : OwnedState → DuKey → FileTime → List Name → Dots → Type 0
SealKnown old dir time names es =
    (d : Names) (t : FileTime) (has : Name → Bool) → known_by es d t ≡ Some has → WasKnown (memory_of old) d t has ⊎ ((d ≡ dir.dir) × (t ≡ time) × ((x : Name) → has x ≡ list_any (same_name x) names))

seal-known : (old : OwnedState) (dir : DuKey) (time : FileTime) (names : List Name) (now : Moment) (room : ℕ)
    → AreCounted old.dots.next old.dots.entries
    → SealKnown old dir time names (sealed_within old.dots dir time now names room).entries
seal-known old dir time names now room kept d t has h =
    let l : Listed = record { dir = dir.dir; time = time; moment = now; number = old.dots.next } in
    let es = sealed old.dots.size l names room old.dots.entries in
    elim (path_tells dir.dir d) [
      | inl is ↦
          let (e, found, at, tells) = known-cases es d t has h in
          let own = sealed-own old.dots.size old.dots.entries l kept names room e (subst (λ w. lookup (same_key (dir_key w)) es ≡ Some e) (sym is.1) found) in
          inr (sym is.1, sym at ∙ own.1, λ x. tells x ∙ subst (λ w. stands es (name_key w x) e.number ≡ list_any (same_name x) names) is.1 (own.2 x))
      | inr ne ↦
          let new : OwnedState = record { paths = old.paths; dots = sealed_within old.dots dir time now names room } in
          inl (was-known old new d t has (sealed-others old.dots.size old.dots.entries l kept d names room (λ q. ne.1 (sym q))) h)
    ]

seals-known : (old new : OwnedState) (dir : DuKey) (time : FileTime) (names : List Name) (now : Moment) (result : Sealed)
    → AreCounted old.dots.next old.dots.entries → Seals old.dots dir time now names result new.dots
    → SealKnown old dir time names new.dots.entries
seals-known old new dir time names now Done kept (less, is) =
    subst (λ (c : DotCache). SealKnown old dir time names c.entries) (sym is) (seal-known old dir time names now (length names + 1) kept)
seals-known old new dir time names now Last kept (all, is) = λ d t has h. inl (was-known old new d t has (same_dots old new is d) h)
seals-known old new dir time names now NoMemory kept (less, room, le, is) =
    subst (λ (c : DotCache). SealKnown old dir time names c.entries) (sym is) (seal-known old dir time names now room kept)

pub owned_seals : (old new : OwnedState) (dir : DuKey) (time : FileTime) (names : List Name) (now : Moment) (result : Sealed)
    → AreCounted old.dots.next old.dots.entries
    → Seals old.dots dir time now names result new.dots → new.paths ≡ old.paths → SealsIn (memory_of old) dir time names now result (memory_of new)
owned_seals old new dir time names now result kept seals paths = record {
  dots = seals;
  paths = ap Some paths;
  known = seals-known old new dir time names now result kept seals;
  same_open = λ d t. refl;
}

pub owned_purges : (old new : OwnedState) (now : Moment) → AreCounted old.dots.next old.dots.entries
    → new.paths ≡ record old.paths { entries = purged (is_old_path now) old.paths.entries }
    → new.dots ≡ record old.dots { entries = purged (is_old_dot now) old.dots.entries } → Purges (memory_of old) now (memory_of new)
owned_purges old new now kept paths dots =
    let cut = purged-take (is_old_dot now) old.dots.entries in
    record {
      paths = paths;
      dots = dots;
      learns = learns old new (λ d. subst (λ (c : DotCache). SameFor d old.dots.entries c.entries) (sym dots) (subst (λ (es : Dots). SameFor d old.dots.entries es) (sym cut.1) (same-take d cut.0 old.dots.entries kept.falling)));
    }

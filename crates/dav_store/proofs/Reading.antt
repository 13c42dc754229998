-- The members that a walk was told of are those that its store shows.
use Rattle.std.proofs.Common.{◌≡◌, ◌≤◌, ◌⊎◌, inl, inr, ℕ, List, [], ◌∷◌, ◌++◌, length, Option, None, Some, Result, Ok, Err, IfOk, IfErr, MatchResult, IsSome, refl, sym, ap, ◌∙◌, subst, append_assoc, append-nil, length-append, arith}
use Rattle.std.specs.List.{AllZip}
use Rattle.std.specs.List.Sorted.{IsPermutation}
use Rattle.std.proofs.lemmas.Grind.{flat_map-append}
use Rattle.std.proofs.lemmas.List.Sorted.{IsPermutation-refl, IsPermutation-cons, IsPermutation-sym, IsPermutation-trans, IsPermutation-middle, IsPermutation-append_left, length_permutation}
use Rattle.std.proofs.lemmas.Slice.Zip.{AllZip-long}
use Rattle.dav_io.specs.Counts.{Rose}
use Rattle.dav_core.specs.declared.error.FsError.{FsError}
use Rattle.dav_core.specs.declared.error.FsError.TheVariants.{NoMemory}
use Rattle.dav_core.specs.declared.member.Member.{Member}
use Rattle.dav_core.specs.DavPath.{WebPath}
use Rattle.dav_core.specs.Disk.{DiskState}
use Rattle.dav_core.specs.Info.{Info}
use Rattle.dav_core.specs.Unchanged.{Keeps}
use Rattle.dav_store.specs.declared.entry.ReadDirMeta.TheVariants.{Data}
use Rattle.dav_store.specs.Files.{Spoiled}
use Rattle.dav_store.specs.Listings.{HasLister, KeepsButLister}
use Rattle.dav_store.specs.Members.{Answered, AreOf, BeginsThere, EndsThere, IsAnswerOf, ReadsThere, RefusesThere, SaysOrRose, ShowsMembers, Stops, WalksOut, WasListed, member_said, members_told, told_of}
use Rattle.dav_store.specs.Shows.{here}
use Rattle.dav_store.specs.View.{View, Listings}

pub keeps_lister : (own : Option ℕ) (s t : DiskState) → Keeps s t → KeepsButLister own s t
keeps_lister own s t keeps = record {
  counts = keeps.counts;
  asked = keeps.asked;
  whole = keeps.whole;
  world = keeps.world;
  live = keeps.live;
  opens = keeps.opens;
  listers = λ n ne. ap (λ f. f n) keeps.listers;
  listings = λ n k ne is. keeps.listings n k is;
}

pub lister_kept : (own after : Option ℕ) (s t : DiskState) → after ≡ own → t.listers ≡ s.listers → HasLister s own → HasLister t after
lister_kept own after s t same listers live = subst (HasLister t) (sym same) (by own live)
  where
    by : (own : Option ℕ) → HasLister s own → HasLister t own
    by None h = tt
    by (Some n) h = subst (λ f. IsSome (f n)) (sym listers) h

told_more : (answers : List Answered) (name : List ℕ) (r : Result Info FsError)
    → members_told (answers ++ record { name = name; meta = r } ∷ []) ≡ members_told answers ++ told_of name r
told_more answers name r = flat_map-append (λ (a : Answered). told_of a.name a.meta) answers (record { name = name; meta = r } ∷ [])
    ∙ ap (λ xs. members_told answers ++ xs) (append-nil (told_of name r))

-- one entry after others
pub told_then : (answers : List Answered) (name : List ℕ) (r : Result Info FsError) (old new : List Member) → new ≡ old ++ told_of name r → old ≡ members_told answers
    → new ≡ members_told (answers ++ record { name = name; meta = r } ∷ [])
told_then answers name r old new e before = e ∙ (ap (λ xs. xs ++ told_of name r) before ∙ sym (told_more answers name r))

pub rose_on : (a b c : ℕ) → Rose a b → b ≤ c → Rose a c
rose_on a b c (inl lt) le = inl (omega arith)
rose_on a b c (inr full) le = inr (omega arith)

pub rose_from : (a b c : ℕ) → a ≤ b → Rose b c → Rose a c
rose_from a b c le (inl lt) = inl (omega arith)
rose_from a b c le (inr full) = inr full

-- members that are told, and members whose metadata was refused
record Split (from now : ℕ) (answers : List Answered) (given : List Member) : Type 0 where
  missing : List Member
  parts : IsPermutation given (members_told answers ++ missing)
  why : (missing ≡ []) ⊎ Rose from now

split_by : (from now : ℕ) (name : List ℕ) (r : Result Info FsError) (m : Member) (answers : List Answered) (given : List Member) → name ≡ m.name → SaysOrRose from now m r
    → Split from now answers given → Split from now (record { name = name; meta = r } ∷ answers) (m ∷ given)
split_by from now name (Ok info) m answers given called (kind, len, modified) s =
    let same : member_said name info ≡ m = rw (called, kind, len, modified) refl in
    record {
      missing = s.missing;
      parts = subst (λ x. IsPermutation (m ∷ given) (x ∷ (members_told answers ++ s.missing))) (sym same) (IsPermutation-cons m given (members_told answers ++ s.missing) s.parts);
      why = s.why;
    }
split_by from now name (Err e) m answers given called rose s = record {
  missing = m ∷ s.missing;
  parts = IsPermutation-trans _ _ _ (IsPermutation-cons m given (members_told answers ++ s.missing) s.parts)
      (IsPermutation-sym _ _ (IsPermutation-middle (members_told answers) m s.missing));
  why = inr rose;
}

split : (from now : ℕ) (answers : List Answered) (given : List Member) → AllZip (IsAnswerOf from now) answers given → Split from now answers given
split from now [] [] z = record { missing = []; parts = IsPermutation-refl []; why = inl refl }
split from now [] (m ∷ given) z = absurd z
split from now (a ∷ answers) [] z = absurd z
split from now (a ∷ answers) (m ∷ given) z = split_by from now a.name a.meta m answers given z.0.name z.0.says (split from now answers given z.1)

none_left : (given rest : List Member) (n : ℕ) → length (given ++ rest) ≡ n → length given ≡ n → rest ≡ []
none_left given [] n all some = refl
none_left given (m ∷ rest) n all some = absurd (omega (arith, length-append given (m ∷ rest)))

why_missing : (from now last : ℕ) (missing rest : List Member) → (missing ≡ []) ⊎ Rose from now → now ≤ last → rest ≡ [] → (missing ++ rest ≡ []) ⊎ Rose from last
why_missing from now last missing rest (inl none) le e = inl (rw (none, e) refl)
why_missing from now last missing rest (inr rose) le e = inr (rose_on from now last rose le)

parts_of : (all : List Member) (from now : ℕ) (answers : List Answered) (of : AreOf all from now answers) (s : Split from now answers of.given)
    → IsPermutation all (members_told answers ++ (s.missing ++ of.rest))
parts_of all from now answers of s = subst (λ xs. IsPermutation all xs) (append_assoc (members_told answers) s.missing of.rest)
    (IsPermutation-trans all (of.given ++ of.rest) _ of.once (IsPermutation-append_left of.rest of.given (members_told answers ++ s.missing) s.parts))

-- all were given, or a fault was met
pub reads_there : (all : List Member) (from now last : ℕ) (answers : List Answered) → AreOf all from now answers → now ≤ last → (length answers ≡ length all) ⊎ Rose from last
    → ReadsThere (Ok all) from (members_told answers) last
reads_there all from now last answers of le (inl long) =
    let s = split from now answers of.given of.each in
    let e = none_left of.given of.rest (length all) (length_permutation all (of.given ++ of.rest) of.once) (AllZip-long (IsAnswerOf from now) answers of.given of.each ∙ long) in
    (s.missing ++ of.rest, parts_of all from now answers of s, why_missing from now last s.missing of.rest s.why le e)
reads_there all from now last answers of le (inr rose) =
    let s = split from now answers of.given of.each in
    (s.missing ++ of.rest, parts_of all from now answers of s, inr rose)

spoiled_as : {A B : Type 0} (s t : DiskState) (e : FsError) → Spoiled {T = A} s (Err e) t → Spoiled {T = B} s (Err e) t
spoiled_as s t e (inl fault) = let same = fault.0 in inl (cc, fault.1)
spoiled_as s t e (inr memory) = inr cc

pub refuses_there : {L : Type 0} (found : Result (List Member) FsError) (s t : DiskState) (e : FsError) → BeginsThere {L = L} found (Err e) ⊎ Spoiled {T = L} s (Err e) t
    → RefusesThere found s e t
refuses_there (Ok all) s t e (inl never) = absurd never
refuses_there {L = L} (Ok all) s t e (inr spoiled) = spoiled_as {A = L} {B = List Member} s t e spoiled
refuses_there (Err f) s t e (inl same) = inl same
refuses_there {L = L} (Err f) s t e (inr spoiled) = inr (spoiled_as {A = L} {B = List Member} s t e spoiled)

pub memory_there : (found : Result (List Member) FsError) (s t : DiskState) (e : FsError) → e ≡ NoMemory → RefusesThere found s e t
memory_there (Ok all) s t e is = inr (ap Err is)
memory_there (Err f) s t e is = inr (inr (ap Err is))

module _ {S C F L E : Type 0} (view : View S C F) (lists : Listings S C L E) where
  ends_there : (all : List Member) (answers : List Answered) (last : Result (Option E) FsError) (s t : S) → Stops last → EndsThere view lists all answers last s t
      → (length answers ≡ length all) ⊎ Rose (view.state s).faults (view.state t).faults
  ends_there all answers (Ok None) s t stops long = inl long
  ends_there all answers (Ok (Some entry)) s t stops long = absurd stops
  ends_there all answers (Err e) s t stops (inl fault) = inr fault.1
  ends_there all answers (Err e) s t stops (inr memory) = absurd (stops cc)

  pub listed_there : (found : Result (List Member) FsError) (s : S) (c : C) (path : WebPath) (members : List Member) (t : S) (l : WasListed view lists s c path members t)
      → ShowsMembers view lists s c path found → (view.state s).faults ≤ (view.state l.begin).faults → (view.state l.after).faults ≤ (view.state t).faults
      → ReadsThere found (view.state s).faults members (view.state t).faults
  listed_there (Err f) s c path members t l shows le on = elim (shows.begins s l.begin (Ok l.listing) here l.begins) [ inl never ↦ absurd never | inr spoiled ↦ elim spoiled [ inl fault ↦ (let e = fault.0 in cc) | inr memory ↦ cc ] ]
  listed_there (Ok all) s c path members t l shows le on =
      let w = l.walks in
      let of = shows.walks all refl s l.begin w.place l.listing w.left w.answers here l.begins w.walk in
      let ends = shows.ends all refl s l.begin w.place w.behind l.listing w.left w.rest w.answers w.last here l.begins w.walk w.ends in
      let why = ends_there all w.answers w.last s w.behind w.stops ends in
      let to_end : (view.state w.behind).faults ≤ (view.state t).faults = omega (arith, w.out, on) in
      rw w.told (reads_there all (view.state s).faults (view.state w.place).faults (view.state t).faults w.answers of (omega (arith, w.on, to_end)) (later (view.state s).faults (view.state w.behind).faults (view.state t).faults w.answers why to_end))
    where
      later : (from last end : ℕ) (answers : List Answered) → (length answers ≡ length all) ⊎ Rose from last → last ≤ end → (length answers ≡ length all) ⊎ Rose from end
      later from last end answers (inl long) le = inl long
      later from last end answers (inr rose) le = inr (rose_on from last end rose le)

  pub shown_by : {M : Type 0} (items : M → List Member) (found : Result (List Member) FsError) (s b a t : S) (c : C) (path : WebPath) (l over : L) (r : Result M FsError)
      → lists.lists s c path Data (Ok l) b → IfOk r (λ m. WalksOut view lists b l (items m) a over) → IfErr r (λ e. e ≡ NoMemory) → lists.ends_list a over t
      → (view.state s).faults ≤ (view.state b).faults → (view.state a).faults ≤ (view.state t).faults → ShowsMembers view lists s c path found
      → MatchResult r (λ m. ReadsThere found (view.state s).faults (items m) (view.state t).faults) (λ e. RefusesThere found (view.state s) e (view.state t))
  shown_by items found s b a t c path l over (Ok m) begins walks error ended le on shows =
      listed_there found s c path (items m) t (record { begin = b; listing = l; begins = begins; after = a; over = over; walks = walks; ended = ended }) shows le on
  shown_by items found s b a t c path l over (Err e) begins walks error ended le on shows = memory_there found (view.state s) (view.state t) e error

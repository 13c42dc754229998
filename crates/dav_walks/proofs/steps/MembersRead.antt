-- The reading of a directory's members, entry by entry.
-- Headline: `read_by`.
use Rattle.std.proofs.Common.{◌≡◌, ◌⊎◌, ◌++◌, inl, inr, ℕ, List, [], ◌∷◌, Result, Ok, Err, IfErr, IfOk, IsOk, IsOkAnd, MatchResult, sym, ap, subst, ◌∙◌, append-nil}
use Rattle.std.proofs.lemmas.Grind.{flat_map-append}
use Rattle.std.proofs.lemmas.List.Sorted.{IsPermutation-map}
use Rattle.std.specs.Cmp.Lexicographic.{slice_cmp}
use Rattle.std.specs.List.Sorted.{IsPermutation, IsSortedByKey}
use Rattle.std.specs.Ordering.{nat_cmp}
use Rattle.dav_core.specs.declared.error.FsError.{FsError}
use Rattle.dav_core.specs.declared.error.FsError.TheVariants.{NoMemory}
use Rattle.dav_core.specs.DavPath.{WebPath}
use Rattle.dav_core.specs.Info.{Info}
use Rattle.dav_core.specs.Unchanged.{Keeps}
use Rattle.dav_store.specs.declared.entry.ReadDirMeta.TheVariants.{DataSymlink}
use Rattle.dav_store.specs.Members.{Answered, Walked}
use Rattle.dav_store.specs.View.{View, Listings}
use Rattle.dav_walks.specs.declared.child.Child.{Child}
use Rattle.dav_walks.specs.declared.member.Member.{Member}
use Rattle.dav_walks.specs.Reading.{AddsChild, AllSaid, HasMembers, HasNoMembers, ReadRefused, ReadsAll, child_said, children_said}
use Rattle.dav_walks.specs.Walking.{member_at, members_at}
use Rattle.dav_walks.proofs.steps.PathsPending.{in_order_at}

said_more : (answers : List Answered) (name : List ℕ) (r : Result Info FsError) → AllSaid answers → IsOk r → AllSaid (answers ++ record { name = name; meta = r } ∷ [])
said_more [] name r all one = (one, tt)
said_more (a ∷ answers) name r all one = (all.0, said_more answers name r all.1 one)

told_more : (path : WebPath) (answers : List Answered) (name : List ℕ) (r : Result Info FsError)
    → children_said path (answers ++ record { name = name; meta = r } ∷ []) ≡ children_said path answers ++ child_said path name r
told_more path answers name r = flat_map-append (λ (a : Answered). child_said path a.name a.meta) answers (record { name = name; meta = r } ∷ [])
    ∙ ap (λ xs. children_said path answers ++ xs) (append-nil (child_said path name r))

-- What a walk was told so far.
pub record ToldSoFar (path : WebPath) (answers : List Answered) (members : List Child) : Type 0 where
  pub said : AllSaid answers
  pub told : members ≡ children_said path answers

pub none_told : (path : WebPath) (members : List Child) → members ≡ [] → ToldSoFar path [] members
none_told path members e = record { said = tt; told = e }

-- one entry after others
pub told_then : (path : WebPath) (answers : List Answered) (name : List ℕ) (r : Result Info FsError) (old new : List Child) → ToldSoFar path answers old
    → AddsChild path name r old (Ok tt) new → ToldSoFar path (answers ++ record { name = name; meta = r } ∷ []) new
told_then path answers name r old new far adds = record {
  said = said_more answers name r far.said adds.0;
  told = adds.1 ∙ (ap (λ xs. xs ++ child_said path name r) far.told ∙ (let more = told_more path answers name r in sym more));
}

module _ {S C F L E : Type 0} (view : View S C F) (lists : Listings S C L E) where
  -- an entry was refused
  pub entry_refused : (s t : S) (l over : L) (path : WebPath) (answers : List Answered) (name : List ℕ) (r : Result Info FsError) (old new : List Child) (e : FsError)
      → ToldSoFar path answers old → Walked view lists s l (answers ++ record { name = name; meta = r } ∷ []) t over → AddsChild path name r old (Err e) new
      → ReadRefused view lists s l e t over
  entry_refused s t l over path answers name r old new e far walk (inr none) = inl (none, answers ++ record { name = name; meta = r } ∷ [], walk)
  entry_refused s t l over path answers name r old new e far walk (inl is) =
      inr (inr (answers, name, far.said, subst (λ x. Walked view lists s l (answers ++ record { name = name; meta = x } ∷ []) t over) is walk))

  -- What was read is known once the listing was ended, and its members are in order.
  pub read_by : {M : Type 0} (items : M → List Member) (s b a t : S) (c : C) (path : WebPath) (l over : L) (read r : Result M FsError) → lists.lists s c path DataSymlink (Ok l) b
      → MatchResult read (λ m. ReadsAll view lists b l path (members_at path (items m)) a over) (λ e. ReadRefused view lists b l e a over) → lists.ends_list a over t
      → Keeps (view.state s) (view.state t) → IfOk r (λ m. IsOkAnd read (λ was. IsPermutation (items was) (items m)))
      → IfOk r (λ m. IsSortedByKey (λ x. x.name) (slice_cmp nat_cmp) (items m)) → IfErr r (λ e. (read ≡ Err e) ⊎ (IsOk read × (e ≡ NoMemory)))
      → MatchResult r (λ m. HasMembers view lists s c path (members_at path (items m)) t) (λ e. HasNoMembers view lists s c path e t)
  read_by items s b a t c path l over (Ok was) (Ok m) begins reads ended keeps once order wrong = record {
    listed = members_at path (items was);
    was = record { begin = b; listing = l; begins = begins; after = a; over = over; reads = reads; ended = ended };
    each_once = IsPermutation-map (member_at path) (items was) (items m) once;
    in_order = in_order_at path (items m) order;
  }
  read_by items s b a t c path l over (Err e) (Ok m) begins refused ended keeps once order wrong = absurd once
  read_by items s b a t c path l over (Ok was) (Err e) begins reads ended keeps once order (inl is) = cc
  read_by items s b a t c path l over (Ok was) (Err e) begins reads ended keeps once order (inr (ok, none)) = record {
    keeps = keeps;
    why = inl (none, members_at path (items was), record { begin = b; listing = l; begins = begins; after = a; over = over; reads = reads; ended = ended });
  }
  read_by items s b a t c path l over (Err f) (Err e) begins refused ended keeps once order (inl is) =
      record { keeps = keeps; why = inr (inr (b, a, l, over, begins, (let same : f ≡ e = cc in subst (λ x. ReadRefused view lists b l x a over) same refused), ended)) }
  read_by items s b a t c path l over (Err f) (Err e) begins refused ended keeps once order (inr (ok, none)) = cc

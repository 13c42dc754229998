-- How a directory is listed, or isn't, over a store that refuses few things.
-- Headline: `unread_refuses`.
use Rattle.std.proofs.Common.{◌≡◌, ◌≤◌, ◌++◌, inl, inr, ℕ, true, List, [], ◌∷◌, None, Some, Result, Ok, Err, refl, ap, subst, arith}
use Rattle.dav_io.specs.Counts.{Rose}
use Rattle.dav_io.proofs.AppendingLemmas.{rose_after, rose_before}
use Rattle.dav_io.proofs.Ends.{last_same}
use Rattle.dav_core.specs.declared.error.FsError.{FsError}
use Rattle.dav_core.specs.declared.error.FsError.TheVariants as fs
use Rattle.dav_core.specs.DavPath.{WebPath}
use Rattle.dav_core.specs.Info.{Info}
use Rattle.dav_store.specs.declared.entry.ReadDirMeta.TheVariants.{DataSymlink}
use Rattle.dav_store.specs.Members.{Answered, Walked, begun, goes as walk_goes}
use Rattle.dav_store.specs.View.{Listings, View}
use Rattle.dav_walks.specs.declared.child.Child.{Child}
use Rattle.dav_methods.specs.Answers.{RefusesUsually, Usual, is_usual}
use Rattle.dav_walks.specs.Pouring.{Writes}
use Rattle.dav_walks.specs.Reading.{HasMembers, HasNoMembers, MembersUnread, ReadRefused}

-- the last of a list
none_last : {A : Type 0} (ys : List A) (y : A) → [] ≡ ys ++ y ∷ [] → ⊥
none_last [] y e = cc
none_last (z ∷ ys) y e = cc

module _ {S C F L E : Type 0} (view : View S C F) (lists : Listings S C L E) (writes : Writes F) (c : C) (few : RefusesUsually view lists writes c) where
  abbrev Counts : S → S → Type 0
  Counts s t = (view.state s).faults ≤ (view.state t).faults

  -- a refusal between two stores: a failure only where a fault was met
  abbrev pub Refuses : S → FsError → S → Type 0
  Refuses s e t = (is_usual e ≡ true) × (e ≡ fs.GeneralFailure → Rose (view.state s).faults (view.state t).faults)

  -- and between an earlier store and a later one
  pub refuses_wider : (s m n t : S) (e : FsError) → Counts s m → Counts n t → Refuses m e n → Refuses s e t
  refuses_wider s m n t e before after (usual, rose) = (usual, λ is. rose_after _ _ _ (rose_before _ _ _ before (rose is)) after)

  short_refuses : (s t : S) (e : FsError) → e ≡ fs.NoMemory → Refuses s e t
  short_refuses s t e is = rw is (refl, λ never. cc)

  walk_counts : (m : S) (l : L) (n : S) (k : L) (answers : List Answered) → Walked view lists m l answers n k → Counts m n
  walk_counts m l n k answers begun = omega arith
  walk_counts m l n k answers (walk_goes before a b o i j e r walk on said lent keeps) =
      omega (arith, walk_counts m l a i before walk, few.goes_counts a b i j (Ok (Some e)) on, keeps.counts)

  -- No fault is forgotten where a directory is listed.
  pub members_count : (path : WebPath) (members : List Child) (s t : S) → HasMembers view lists s c path members t → Counts s t
  members_count path members s t has =
      let was = has.was in
      let first = few.begins s was.begin path DataSymlink (Ok was.listing) was.begins in
      let walked = walk_counts was.begin was.listing was.reads.place was.reads.left was.reads.answers was.reads.walk in
      let last = few.goes_counts was.reads.place was.after was.reads.left was.over (Ok None) was.reads.ends in
      omega (arith, first.counts, walked, last, few.ends was.after t was.over was.ended)

  -- the last entry of a walk was refused
  entry_refuses : (s m : S) (path : WebPath) (l : L) → lists.lists s c path DataSymlink (Ok l) m → (n : S) (k : L) (all : List Answered) → Walked view lists m l all n k
      → (answers : List Answered) (name : List ℕ) (e : FsError) → all ≡ answers ++ record { name = name; meta = Err e } ∷ [] → Refuses s e n
  entry_refuses s m path l begins n k all begun answers name e is = absurd (none_last answers (record { name = name; meta = Err e }) is)
  entry_refuses s m path l begins n k all (walk_goes before a b o i j entry r walk on said lent keeps) answers name e is =
      let same = last_same before answers (record { name = lists.called entry; meta = r }) (record { name = name; meta = Err e }) is in
      let refused : r ≡ Err e = ap (λ (x : Answered). x.meta) same in
      let usual = few.says s m a b o path DataSymlink l i j before entry r begins walk on said in
      (subst (λ (x : Result Info FsError). Usual (view.state s) x (view.state o)) refused usual).refused

  read_refuses : (s b : S) (path : WebPath) (l : L) → lists.lists s c path DataSymlink (Ok l) b → (e : FsError) (a : S) (over : L) → ReadRefused view lists b l e a over → Refuses s e a
  read_refuses s b path l begins e a over (inl (none, answers, walk)) = short_refuses s a e none
  read_refuses s b path l begins e a over (inr (inl (answers, place, left, walk, said, on))) = (few.goes_on s b place a path DataSymlink l left over answers (Err e) begins walk on).refused
  read_refuses s b path l begins e a over (inr (inr (answers, name, said, walk))) = entry_refuses s b path l begins a over _ walk answers name e refl

  -- A directory isn't listed only by such a refusal.
  pub unread_refuses : (path : WebPath) (e : FsError) (s t : S) → HasNoMembers view lists s c path e t → Refuses s e t
  unread_refuses path e s t has = by has.why
    where
      by : MembersUnread view lists s c path e t → Refuses s e t
      by (inl (none, listed, was)) = short_refuses s t e none
      by (inr (inl refused)) = (few.begins s t path DataSymlink (Err e) refused).refused
      by (inr (inr (begin, after, listing, over, begins, refused, ended))) =
          refuses_wider s s after t e (omega arith) (few.ends after t over ended) (read_refuses s begin path listing begins e after over refused)

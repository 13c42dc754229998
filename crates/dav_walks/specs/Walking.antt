-- What stands for what a walk holds: it has one path, at which members are pending, and the ways up to those that are
-- pending above. The tables speak of whole paths. Private functions alone cite this.
use Rattle.std.specs.Prelude.{◌≡◌, ◌⊎◌, ◌++◌, ◌<◌, ◌^◌, ℕ, List, [], ◌∷◌, map, length, Bool, true, Ok, Err}
use Rattle.dav_core.specs.declared.dav_error.DavError.TheVariants.{NoMemory}
use Rattle.dav_core.specs.declared.error.FsError.{FsError}
use Rattle.dav_core.specs.DavPath.{WebPath}
use Rattle.dav_core.specs.Statuses.{of_fs}
use Rattle.dav_store.specs.View.{View, Listings}
use Rattle.dav_walks.specs.declared.child.Child.{Child}
use Rattle.dav_walks.specs.declared.copying.CopyWalk.{CopyWalk}
use Rattle.dav_walks.specs.declared.ends.Ends.{Ends}
use Rattle.dav_walks.specs.declared.member.Member.{Member}
use Rattle.dav_walks.specs.declared.pending.Pending.{Pending}
use Rattle.dav_walks.specs.declared.pending.Pending.TheVariants.{Below, Up}
use Rattle.dav_walks.specs.declared.transfer.Transfer.{Transfer}
use Rattle.dav_walks.specs.declared.work.Work.{Work}
use Rattle.dav_walks.specs.declared.work.Work.TheVariants.{Emptied, Whole}
use Rattle.dav_walks.specs.Copying.{Copies, transfer_of}
use Rattle.dav_walks.specs.Lines.{Line, above}
use Rattle.dav_walks.specs.Reading.{HasMembers, HasNoMembers, child_named}
use Rattle.dav_walks.specs.Removing.{Removes}
use Rattle.dav_walks.specs.Weights.{weight}

abbrev pub member_at : WebPath → Member → Child
member_at path m = child_named path m.name m.dir

abbrev pub members_at : WebPath → List Member → List Child
members_at path members = map (member_at path) members

-- The removals that are pending at a path, and then the last ones: where the walk goes up, the directory goes.
abbrev pub works_at : WebPath → List Pending → List Work → List Work
works_at path [] last = last
works_at path (Below m ∷ works) last = Whole (member_at path m).path m.dir ∷ works_at path works last
works_at path (Up ∷ works) last = Emptied path ∷ works_at (above path) works last

-- both ends of a copy at a member, and above
abbrev pub ends_below : Ends → Member → Ends
ends_below ends m = record { from = (member_at ends.from m).path; to = (member_at ends.to m).path }

abbrev pub ends_above : Ends → Ends
ends_above ends = record { from = above ends.from; to = above ends.to }

-- The copies that are pending.
abbrev pub transfers_at : Ends → List Pending → List Transfer
transfers_at ends [] = []
transfers_at ends (Below m ∷ works) = transfer_of ends.to (member_at ends.from m) ∷ transfers_at ends works
transfers_at ends (Up ∷ works) = transfers_at (ends_above ends) works

-- What a walk that copies has left, and how much it weighs.
abbrev pub transfers_left : CopyWalk → List Transfer
transfers_left walk = transfers_at walk.ends walk.works.items

abbrev pub weight_left : CopyWalk → ℕ
weight_left walk = weight (works_at walk.ends.from walk.works.items [])

-- the copy of the directory that both ends stand for
abbrev pub transfer_dir : Ends → Transfer
transfer_dir ends = record { from = ends.from; to = ends.to; dir = true }

module _ {S C F L E : Type 0} (view : View S C F) (lists : Listings S C L E) (c : C) where
  -- The members of a directory come before what is pending, unless they aren't read, or no memory is left for them.
  abbrev pub ReadsPending : WebPath → List Pending → S → Line → S → List Pending → Type 0
  ReadsPending path works s (Ok x) t rest = (members : List Member)
      × HasMembers view lists s c path (members_at path members) t
      × (length members < 2 ^ 64)
      × (rest ≡ map Below members ++ works)
  ReadsPending path works s (Err e) t rest = ((refusal : FsError) × HasNoMembers view lists s c path refusal t
      × (e ≡ of_fs refusal))
      ⊎ ((members : List Child) × HasMembers view lists s c path members t × (e ≡ NoMemory))

  -- Removals lead on to others: what these come to, those come to. Or they end with a refusal.
  abbrev pub RemovesOn : List Work → S → Line → S → List Work → Type 0
  RemovesOn works s (Ok x) t rest = (r : Line) (u : S) → Removes view lists c rest t r u
      → Removes view lists c works s r u
  RemovesOn works s (Err e) t rest = Removes view lists c works s (Err e) t

  -- the same for copies
  abbrev pub CopiesOn : Bool → List Transfer → S → Line → S → List Transfer → Type 0
  CopiesOn alone works s (Ok x) t rest = (r : Line) (u : S) → Copies view lists c alone rest t r u
      → Copies view lists c alone works s r u
  CopiesOn alone works s (Err e) t rest = Copies view lists c alone works s (Err e) t

-- When the bytes that are held for a tag are those of every file of that tag.
use Rattle.std.specs.Prelude.{◌≡◌, ◌⊎◌, ℕ, List, [], ◌∷◌, length, Option, Some}
use Rattle.std.specs.List.{AllByRecursion}
use Rattle.std.specs.Prelude.{Ok, Result}
use Rattle.dav_core.specs.declared.error.FsError.{FsError}
use Rattle.dav_core.specs.declared.tree.Kind.TheVariants.{File}
use Rattle.dav_core.specs.DavPath.{WebPath}
use Rattle.dav_core.specs.Disk.{DiskState}
use Rattle.dav_core.specs.Info.{known, tag_of}
use Rattle.dav_core.specs.World.{Holds, SameBesidesOpens, World, bytes_of, time_of}
use Rattle.dav_core.specs.Writing.{reading}
use Rattle.dav_store.specs.FileView.{FileView}
use Rattle.dav_store.specs.Shows.{Looked}
use Rattle.dav_store.specs.Standing.{Seen, Standing}
use Rattle.dav_store.specs.View.{View}
use Rattle.dav_readcache.specs.declared.cached.Content.{Content}
use Rattle.dav_readcache.specs.Shelf.{Pairs}

-- the tag of the regular file of a number, also of one that is open alone
abbrev pub tag_in : World → ℕ → Option (List ℕ)
tag_in w number = tag_of File number (length (bytes_of w number)) (known (time_of w number))

-- Every file of this tag that somebody holds has these bytes.
abbrev pub IsSoundIn : World → List ℕ → List ℕ → Type 0
IsSoundIn w tag bytes = (number : ℕ) → Holds w number → tag_in w number ≡ Some tag → bytes_of w number ≡ bytes

abbrev pub In : World → List World → Type 0
In w [] = ⊥
In w (v ∷ trail) = (w ≡ v) ⊎ In w trail

-- An entry is sound for a trail.
abbrev pub IsSound : List World → List ℕ → List ℕ → Type 0
IsSound trail tag bytes = (w : World) → In w trail → IsSoundIn w tag bytes

-- Files of equal tags have equal bytes, in all worlds of a trail.
abbrev pub AreFaithful : List World → Type 0
AreFaithful trail = (v w : World) (m n : ℕ) (tag : List ℕ) → In v trail → In w trail → Holds v m → Holds w n
    → tag_in v m ≡ Some tag → tag_in w n ≡ Some tag → bytes_of w n ≡ bytes_of v m

-- What is held is sound: in a world, or for a trail.
abbrev pub IsHeldSound : (List ℕ → List ℕ → Type 0) → Option Content → Type 0
IsHeldSound sound content = (c : Content) → content ≡ Some c → sound c.tag c.bytes

-- It is a regular file as a world has it.
pub record IsFileIn (w : World) (there : Standing) : Type 0 where
  pub held : Holds w there.number
  pub kind : there.kind ≡ File
  pub tag : there.tag ≡ tag_in w there.number
  pub bytes : there.bytes ≡ bytes_of w there.number
  pub len : there.len ≡ length there.bytes

-- Each open regular file whose bytes a store shows is as the world has it that its disk tells.
abbrev pub AreFilesTold : {F : Type 0} → FileView F → Type 0
AreFilesTold {F} view = (file : F) (s : DiskState) (f : Seen) → view.seen file s ≡ Some f → f.stands.kind ≡ File
    → (v : World) × (s.told ≡ Some v) × IsFileIn v f.stands

-- Each entry is sound in a world, and in all of a trail.
abbrev pub AreSoundIn : World → Pairs → Type 0
AreSoundIn w pairs = AllByRecursion (λ pair. IsSoundIn w pair.0 pair.1) pairs

abbrev pub AreSound : List World → Pairs → Type 0
AreSound trail pairs = AllByRecursion (λ pair. IsSound trail pair.0 pair.1) pairs

-- Where a path is opened for reading after looks, the disk tells this world but for what is open.
abbrev pub IsWorldThere : {S C F : Type 0} → View S C F → S → C → WebPath → World → Type 0
IsWorldThere {S} {C} {F} view s c path w = (m n : S) (o : Result F FsError) (v : World) → Looked view s c m
    → view.opens m c path reading o n → (view.state n).told ≡ Some v → SameBesidesOpens w v

-- What is opened for reading at a path is told, at its first byte, and the disk tells this world but for what is open.
abbrev pub OpensTold : {S C F : Type 0} → View S C F → S → C → WebPath → World → Type 0
OpensTold {S} {C} {F} view s c path w = (n : S) (file : F) → view.opens s c path reading (Ok file) n
    → (f : Seen) × (view.file.seen file (view.state n) ≡ Some f) × (f.place ≡ 0)
    × ((v : World) → (view.state n).told ≡ Some v → SameBesidesOpens w v)

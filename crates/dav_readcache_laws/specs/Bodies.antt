-- A body whose file may hold a content, from the call that gave it through its polls.
use Rattle.std.specs.Prelude.{◌≡◌, List, Option, Some, Ok, Err}
use Rattle.dav_core.specs.Disk.{DiskState}
use Rattle.dav_core.specs.World.{World}
use Rattle.dav_model.specs.declared.answer.Answer.{Answer}
use Rattle.dav_store.specs.FileView.{FileView}
use Rattle.dav_store.specs.Files.{LeavesOpen}
use Rattle.dav_get.specs.declared.body.GetBody.{GetBody}
use Rattle.dav_get.specs.declared.open_at.OpenAt.{OpenAt}
use Rattle.dav_get.specs.Bodies.{IsPolled, SameLeft}
use Rattle.dav_get.specs.Table.{Given}
use Rattle.dav_readcache.specs.declared.cached.CachedFile.{CachedFile}
use Rattle.dav_readcache.specs.Cached.{content_of}
use Rattle.dav_readcache.specs.Sound.{IsHeldSound, IsSound}

-- What a body's file holds is sound for a trail.
abbrev pub IsFileSound : {F : Type 0} → List World → Option (OpenAt (CachedFile F)) → Type 0
IsFileSound {F} trail file = (h : OpenAt (CachedFile F)) → file ≡ Some h
    → IsHeldSound (IsSound trail) (content_of h.file)

-- the same of the body that is given
abbrev pub IsGivenSound : {F : Type 0} → List World → Given (CachedFile F) → Type 0
IsGivenSound trail (Ok r) = IsFileSound trail r.1.file
IsGivenSound trail (Err e) = Unit {0}

-- How a body and its disk come from a body on a disk: the body is polled, and between its polls others do what they
-- may, as long as they leave the body's file open.
pub data Along {F : Type 0} (files : FileView F) (s : DiskState) (b : GetBody F) : DiskState → GetBody F → Type 0 where
  begun : Along files s b s b
  polled : (m t : DiskState) (c d : GetBody F) (answer : Answer) → Along files s b m c → IsPolled files m c answer t d
      → Along files s b t d
  -- a step for which memory was refused
  starved : (m t : DiskState) (c d : GetBody F) → Along files s b m c → SameLeft files m c t d → Along files s b t d
  left : (m t : DiskState) (c : GetBody F) → Along files s b m c
      → ((h : OpenAt F) → c.file ≡ Some h → LeavesOpen (files.handle h.file) m t) → Along files s b t c

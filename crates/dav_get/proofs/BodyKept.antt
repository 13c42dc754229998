-- What others do leaves a body as it was.
use Rattle.std.proofs.Common.{◌≡◌, List, Some, ◌∙◌, ap}
use Rattle.dav_io.proofs.ToldLemmas.{told_before}
use Rattle.dav_core.specs.Disk.{DiskState, can_read}
use Rattle.dav_model.specs.Bodies.{Part}
use Rattle.dav_store.specs.FileView.{FileView}
use Rattle.dav_store.specs.Files.{SameSeen, LeavesOpen}
use Rattle.dav_get.specs.declared.open_at.OpenAt.{OpenAt}
use Rattle.dav_get.specs.declared.body.GetBody.{GetBody}
use Rattle.dav_get.specs.OpenFiles.{IsAt}
use Rattle.dav_get.specs.Bodies.{IsHeld, HasParts}

-- `stays` and `on` are the laws of the file's type.
module _ {F : Type 0} (files : FileView F) (stays : (f : F) (s t : DiskState) → LeavesOpen (files.handle f) s t → SameSeen (files.seen f s) (files.seen f t))
    (on : (f : F) (s t : DiskState) → LeavesOpen (files.handle f) s t → files.reads_from f s → files.reads_from f t)
  where
    at_stays : (s t : DiskState) (h : OpenAt F) → LeavesOpen (files.handle h.file) s t → IsAt files s h → IsAt files t h
    at_stays s t h leaves at = record {
      live = ap can_read leaves.live ∙ at.live;
      reads = on h.file s t leaves at.reads;
      place = λ g told. let (f, before, same) = told_before (files.seen h.file s) (files.seen h.file t) (λ a b. (b.stands.number ≡ a.stands.number) × (b.place ≡ a.place)) g (stays h.file s t leaves) told in
          same.1 ∙ at.place f before;
    }

    -- the body may be polled as before
    pub held_stays : (s t : DiskState) (b : GetBody F) → ((h : OpenAt F) → b.file ≡ Some h → LeavesOpen (files.handle h.file) s t) → IsHeld files s b → IsHeld files t b
    held_stays s t b leaves held = record {
      parts = held.parts;
      needs = held.needs;
      over = held.over;
      some = held.some;
      room = held.room;
      file = λ h is. at_stays s t h (leaves h is) (held.file h is);
    }

    -- and has the same parts left
    pub parts_stay : (s t : DiskState) (b : GetBody F) (parts : List Part) → ((h : OpenAt F) → b.file ≡ Some h → LeavesOpen (files.handle h.file) s t) → HasParts files.seen s parts b → HasParts files.seen t parts b
    parts_stay s t b parts leaves has = record {
      number = has.number;
      are = has.are;
      file = λ h g is told. let (f, before, same) = told_before (files.seen h.file s) (files.seen h.file t) (λ a b. (b.stands.number ≡ a.stands.number) × (b.place ≡ a.place)) g (stays h.file s t (leaves h is)) told in
          same.0 ∙ has.file h f is before;
    }

-- What a GET leaves open: nothing but the file of its body.
use Rattle.std.specs.Prelude.{◌≡◌, ℕ, true, Option, None, Some, Ok, Err}
use Rattle.std.specs.List.{list_any}
use Rattle.dav_core.specs.Disk.{DiskState}
use Rattle.dav_core.specs.DavPath.{WebPath}
use Rattle.dav_core.specs.Info.{Info}
use Rattle.dav_core.specs.Unchanged.{Keeps, KeepsBut}
use Rattle.dav_core.specs.Writing.{reading}
use Rattle.dav_model.specs.Due.{Query, course, opening}
use Rattle.dav_model.specs.Play.{read_file}
use Rattle.dav_store.specs.View.{View}
use Rattle.dav_get.specs.declared.open_at.OpenAt.{OpenAt}
use Rattle.dav_get.specs.Bodies.{IsHeld, is_slice, left_of}
use Rattle.dav_get.specs.Table.{Given}

-- Nothing is open that wasn't, but this file, which is open for reading.
abbrev pub OpensOnly : {F : Type 0} → (F → ℕ) → DiskState → Option (OpenAt F) → DiskState → Type 0
OpensOnly handle s None t = Keeps s t
OpensOnly handle s (Some h) t =
    KeepsBut (handle h.file) s t × (s.live (handle h.file) ≡ None) × (t.live (handle h.file) ≡ Some read_file)

module _ {S C F : Type 0} (view : View S C F) where
  -- the file in hand is the body's, or is closed
  abbrev pub KeptOrClosed : ℕ → S → Option (OpenAt F) → S → Type 0
  KeptOrClosed n s None t = KeepsBut n (view.state s) (view.state t) × ((view.state t).live n ≡ None)
  KeptOrClosed n s (Some h) t = KeepsBut n (view.state s) (view.state t) × (view.file.handle h.file ≡ n)
      × ((view.state t).live n ≡ (view.state s).live n)

  abbrev pub HeldOrClosed : ℕ → S → Given F → S → Type 0
  HeldOrClosed n s (Ok r) t = IsHeld view.file (view.state t) r.1 × KeptOrClosed n s r.1.file t
  HeldOrClosed n s (Err e) t = KeepsBut n (view.state s) (view.state t) × ((view.state t).live n ≡ None)

  -- Nothing is open that wasn't, but the body's file.
  abbrev pub OpenOnlyHeld : S → Given F → S → Type 0
  OpenOnlyHeld s (Ok r) t = IsHeld view.file (view.state t) r.1
      × OpensOnly view.file.handle (view.state s) r.1.file (view.state t)
  OpenOnlyHeld s (Err e) t = Keeps (view.state s) (view.state t)

module _ {S C F : Type 0} (view : View S C F) (q : Query) (c : C) (s : S) where
  -- It is what a file became that was opened in the call: for reading alone, at the path that is due for what a look told.
  pub record IsOpenedHere (file : F) : Type 0 where
    pub info : Info
    pub before : S
    pub looks : view.looks s c q.path (Ok info) before
    pub keeps : Keeps (view.state s) (view.state before)
    pub path : WebPath
    pub due : course q info.kind ≡ opening path
    pub opened : F
    pub after : S
    pub opens : view.opens before c path reading (Ok opened) after
    pub becomes : view.file.becomes opened file

  -- The body's file was opened in the call.
  abbrev pub HasOpened : Given F → Type 0
  HasOpened (Ok r) = (h : OpenAt F) → r.1.file ≡ Some h → IsOpenedHere h.file
  HasOpened (Err e) = Unit {0}

-- where slices of a file are left, a piece has at most so many bytes
abbrev pub HasMost : {F : Type 0} → ℕ → Given F → Type 0
HasMost most (Ok r) = list_any is_slice (left_of r.1) ≡ true → r.1.most ≡ most
HasMost most (Err e) = Unit {0}

-- What a GET leaves open, call by call.
use Rattle.std.proofs.Common.{◌≡◌, ◌&&◌, ℕ, Bool, true, Option, None, Some, Ok, Err, refl, sym, ap, subst, ◌∙◌}
use Rattle.dav_core.specs.declared.handle.OpenOptions.{OpenOptions}
use Rattle.dav_core.specs.declared.tree.Kind.{Kind}
use Rattle.dav_core.specs.declared.tree.Kind.TheVariants.{Dir, File, Link}
use Rattle.dav_core.specs.Disk.{Live, can_read}
use Rattle.dav_core.specs.Tree.{is_file}
use Rattle.dav_io.specs.Told.{Both}
use Rattle.dav_core.specs.Unchanged.{Keeps, KeepsBut, SameBesidesOpens}
use Rattle.dav_core.proofs.UnchangedLemmas.{keeps_but, keeps_then, but_then, closed_again}
use Rattle.dav_core.specs.Writing.{reading}
use Rattle.dav_store.specs.Frames.{IsOpened}
use Rattle.dav_store.specs.View.{View}
use Rattle.dav_get.specs.declared.open_at.OpenAt.{OpenAt}
use Rattle.dav_model.specs.Play.{read_file}
use Rattle.dav_get.specs.Lives.{KeptOrClosed, HeldOrClosed, OpensOnly, OpenOnlyHeld}
use Rattle.dav_get.specs.OpenFiles.{IsAt}
use Rattle.dav_get.specs.Table.{Given}

kind_of_file : (k : Kind) (b : Bool) → is_file k && b ≡ true → k ≡ File
kind_of_file Dir b is = cc
kind_of_file File b is = refl
kind_of_file Link b is = cc

-- What may be read and was opened for reading is a regular file, opened for nothing else.
read_alone : (live : Option Live) → can_read live ≡ true → ((l : Live) → live ≡ Some l → l.how ≡ reading) → live ≡ Some read_file
read_alone None can how = cc
read_alone (Some l) can how =
    let kind = kind_of_file l.kind l.how.read can in
    let opened = how l refl in
    λ i. Some (record { kind = kind i; how = opened i })

module _ {S C F : Type 0} (view : View S C F) where
  kept_before : (n : ℕ) (s m t : S) (held : Option (OpenAt F)) → KeepsBut n (view.state s) (view.state m) → (view.state m).live n ≡ (view.state s).live n
      → KeptOrClosed view n m held t → KeptOrClosed view n s held t
  kept_before n s m t None keeps live kept = (but_then n (view.state s) (view.state m) (view.state t) keeps kept.0, kept.1)
  kept_before n s m t (Some h) keeps live kept = (but_then n (view.state s) (view.state m) (view.state t) keeps kept.0, kept.1, kept.2 ∙ live)

  -- A call on the file in hand came before.
  held_before : (n : ℕ) (s m t : S) (result : Given F) → KeepsBut n (view.state s) (view.state m) → (view.state m).live n ≡ (view.state s).live n
      → HeldOrClosed view n m result t → HeldOrClosed view n s result t
  held_before n s m t (Ok r) keeps live life = (life.0, kept_before n s m t r.1.file keeps live life.1)
  held_before n s m t (Err e) keeps live life = (but_then n (view.state s) (view.state m) (view.state t) keeps life.0, life.1)

  -- the same, where the call gave the file back under its handle
  pub held_after : (n k : ℕ) (s m t : S) (result : Given F) → KeepsBut n (view.state s) (view.state m) → (view.state m).live n ≡ (view.state s).live n → k ≡ n
      → HeldOrClosed view k m result t → HeldOrClosed view n s result t
  held_after n k s m t result keeps live same life = held_before n s m t result keeps live (subst (λ j. HeldOrClosed view j m result t) same life)

  -- A call that changed nothing came before.
  pub held_kept : (n k : ℕ) (s m t : S) (result : Given F) → Keeps (view.state s) (view.state m) → k ≡ n → HeldOrClosed view k m result t → HeldOrClosed view n s result t
  held_kept n k s m t result keeps same life = held_after n k s m t result (keeps_but n (view.state s) (view.state m) keeps) (keeps.live n) same life

  only_new : (n : ℕ) (s m t : S) → KeepsBut n (view.state s) (view.state m) → (view.state s).live n ≡ None
      → ((l : Live) → (view.state m).live n ≡ Some l → l.how ≡ reading)
      → (held : Option (OpenAt F)) → ((h : OpenAt F) → held ≡ Some h → IsAt view.file (view.state t) h)
      → KeptOrClosed view n m held t → OpensOnly view.file.handle (view.state s) held (view.state t)
  only_new n s m t keeps fresh how None at kept =
      closed_again n (view.state s) (view.state t) (but_then n (view.state s) (view.state m) (view.state t) keeps kept.0) fresh kept.1
  only_new n s m t keeps fresh how (Some h) at kept =
      let same : (view.state t).live (view.file.handle h.file) ≡ (view.state m).live n = ap (view.state t).live kept.1 ∙ kept.2 in
      let can : can_read ((view.state m).live n) ≡ true = ap can_read (sym same) ∙ (at h refl).live in (
        subst (λ j. KeepsBut j (view.state s) (view.state t)) (sym kept.1) (but_then n (view.state s) (view.state m) (view.state t) keeps kept.0),
        ap (view.state s).live kept.1 ∙ fresh,
        same ∙ read_alone ((view.state m).live n) can how,
      )

  -- A file in hand that is held or closed leaves the told world.
  pub life_world : (n : ℕ) (s : S) (result : Given F) (t : S) → HeldOrClosed view n s result t → Both (view.state s).told (view.state t).told SameBesidesOpens
  life_world n s (Ok r) t life = by r.1.file life.1
    where
      by : (held : Option (OpenAt F)) → KeptOrClosed view n s held t → Both (view.state s).told (view.state t).told SameBesidesOpens
      by None closed = closed.0.world
      by (Some h) held = held.0.world
  life_world n s (Err e) t life = life.0.world

  -- The file in hand was opened before.
  pub opened_before : (how : OpenOptions) (s m t : S) (file : F) (result : Given F) → how ≡ reading → IsOpened how (view.state s) (view.file.handle file) (view.file.seen file (view.state m)) (view.state m)
      → HeldOrClosed view (view.file.handle file) m result t → OpenOnlyHeld view s result t
  opened_before how s m t file (Ok r) is opened life =
      (life.0, only_new (view.file.handle file) s m t (opened.kept is) opened.fresh (λ l at. opened.options l at ∙ is) r.1.file life.0.file life.1)
  opened_before how s m t file (Err e) is opened life =
      closed_again (view.file.handle file) (view.state s) (view.state t) (but_then (view.file.handle file) (view.state s) (view.state m) (view.state t) (opened.kept is) life.0) opened.fresh life.1

  only_before : (s m t : S) (held : Option (OpenAt F)) → Keeps (view.state s) (view.state m) → OpensOnly view.file.handle (view.state m) held (view.state t) → OpensOnly view.file.handle (view.state s) held (view.state t)
  only_before s m t None keeps only = keeps_then (view.state s) (view.state m) (view.state t) keeps only
  only_before s m t (Some h) keeps only =
      (but_then (view.file.handle h.file) (view.state s) (view.state m) (view.state t) (keeps_but (view.file.handle h.file) (view.state s) (view.state m) keeps) only.0, sym (keeps.live (view.file.handle h.file)) ∙ only.1, only.2)

  -- A look came before.
  pub looked_before : (s m t : S) (result : Given F) → Keeps (view.state s) (view.state m) → OpenOnlyHeld view m result t → OpenOnlyHeld view s result t
  looked_before s m t (Ok r) keeps life = (life.0, only_before s m t r.1.file keeps life.1)
  looked_before s m t (Err e) keeps life = keeps_then (view.state s) (view.state m) (view.state t) keeps life

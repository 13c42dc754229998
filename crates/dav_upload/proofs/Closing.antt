-- An upload's file was closed, and what followed left open what was.
use Rattle.std.proofs.Common.{◌≡◌, ℕ, Result, Ok, Err, sym, ◌∙◌}
use Rattle.dav_core.specs.Disk.{DiskState}
use Rattle.dav_core.specs.Unchanged.{Keeps}
use Rattle.dav_store.specs.Frames.{KeepsOpen, KeepsOpenBut}
use Rattle.dav_store.specs.View.{Closes, StaysBy, StaysOpen, View}
use Rattle.dav_walks.proofs.calls.KeptOpen.{but_kept, but_then, open_after, open_kept, open_then}
use Rattle.dav_upload.specs.declared.error.UploadError.{UploadError}
use Rattle.dav_upload.specs.declared.upload.Upload.{Upload}
use Rattle.dav_upload.specs.Pieces.{ClosesUpload}
use Rattle.dav_upload.specs.Uploading.{OpensUpload}

pub but_open : (own : ℕ) (s t : DiskState) → KeepsOpen s t → KeepsOpenBut own s t
but_open own s t k = record { counts = k.counts; asked = k.asked; whole = k.whole; listers = k.listers; listings = k.listings; live = λ h ne. k.live h; opens = λ h l ne e. k.opens h l e }

module _ {S C F : Type 0} (view : View S C F) where
  pub closed_then : (s m t : S) (f : F) → Closes view s f m → StaysOpen view m t → StaysBy view (ClosesUpload (view.file.handle f)) s t
  closed_then s m t f closes stays = record {
    keeps = record {
      others = but_then (view.file.handle f) (view.state s) (view.state m) (view.state t) (but_kept (view.file.handle f) (view.state s) (view.state m) closes.done.keeps)
          (but_open (view.file.handle f) (view.state m) (view.state t) stays.keeps);
      live = stays.keeps.live (view.file.handle f) ∙ closes.done.live;
    };
    loan = stays.loan ∙ closes.lent.loan;
  }

  -- two calls, one after the other
  pub stays_then : (s m t : S) → StaysOpen view s m → StaysOpen view m t → StaysOpen view s t
  stays_then s m t p q = record {
    keeps = open_then (view.state s) (view.state m) (view.state t) p.keeps q.keeps;
    loan = q.loan ∙ p.loan;
  }

  -- a call that only reads, and another
  pub stays_after : (s m t : S) → Keeps (view.state s) (view.state m) → view.loan m ≡ view.loan s → StaysOpen view m t → StaysOpen view s t
  stays_after s m t keeps loan q = record {
    keeps = open_after (view.state s) (view.state m) (view.state t) keeps q.keeps;
    loan = q.loan ∙ loan;
  }

pub made_after : {F : Type 0} (handle : F → ℕ) (r : Result (Upload F) UploadError) (s m t : DiskState) → Keeps s m → OpensUpload handle m r t → OpensUpload handle s r t
made_after handle (Ok u) s m t keeps made = record {
  others = but_then (handle u.file) s m t (but_open (handle u.file) s m (open_kept s m keeps)) made.others;
  fresh = sym (keeps.live (handle u.file)) ∙ made.fresh;
  live = made.live;
  options = made.options;
}
made_after handle (Err e) s m t keeps opens = open_after s m t keeps opens

module _ {S C F : Type 0} (view : View S C F) where
  -- a call that only reads, and the making of the hidden file
  pub opens_after : (s m t : S) (r : Result (Upload F) UploadError) → Keeps (view.state s) (view.state m) → view.loan m ≡ view.loan s
      → StaysBy view (λ a b. OpensUpload view.file.handle a r b) m t → StaysBy view (λ a b. OpensUpload view.file.handle a r b) s t
  opens_after s m t r keeps loan q = record {
    keeps = made_after view.file.handle r (view.state s) (view.state m) (view.state t) keeps q.keeps;
    loan = q.loan ∙ loan;
  }

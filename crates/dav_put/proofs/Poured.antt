-- What is known of an upload into which pieces of an input went.
use Rattle.std.proofs.Common.{◌≡◌, ◌≢◌, ◌+◌, ◌++◌, ℕ, List, [], take, IsSome, Option, Ok, refl, sym, subst, ◌∙◌, arith}
use Rattle.dav_io.specs.Outside.{Stream, Takes}
use Rattle.dav_core.specs.Disk.{DiskState, Live}
use Rattle.dav_store.specs.Frames.{KeepsOpenBut}
use Rattle.dav_store.specs.View.{StaysBy, View}
use Rattle.dav_walks.specs.Pouring.{Writes}
use Rattle.dav_walks.proofs.calls.KeptOpen.{but_same, but_then}
use Rattle.dav_upload.specs.declared.upload.Upload.{Upload}
use Rattle.dav_upload.specs.Pieces.{KeepsUpload}
use Rattle.dav_upload.specs.Uploading.{WritesPiece}
use Rattle.dav_put.specs.Storing.{Fed, Feed, Gives, IsOver}
use Rattle.dav_put.specs.Storing.Fed.{begun, goes}

-- ---- what stays open

pub keeps_same : (h : ℕ) (s : DiskState) → KeepsUpload h h s s
keeps_same h s = record { others = but_same h s; handle = refl; live = refl }

pub keeps_then : (h a b : ℕ) (s m t : DiskState) → KeepsUpload h a s m → KeepsUpload a b m t → KeepsUpload h b s t
keeps_then h a b s m t p q = record {
  others = but_then h s m t p.others (subst (λ k. KeepsOpenBut k m t) p.handle q.others);
  handle = q.handle ∙ p.handle;
  live = subst (λ k. t.live k ≡ m.live k) p.handle q.live ∙ p.live;
}

pub live_still : (h a : ℕ) (s t : DiskState) → KeepsUpload h a s t → IsSome (s.live h) → IsSome (t.live a)
live_still h a s t p live = subst (λ k. IsSome (t.live k)) (sym p.handle) (subst (λ (l : Option Live). IsSome l) (sym p.live) live)

-- ---- what a source gave

pub gives_taken : (i j : Stream) (buffer : List ℕ) (n : ℕ) → (n ≡ 0 → ⊥) → Takes i buffer (Ok n) j → Gives i (take n buffer) j
gives_taken i j buffer n some takes = (buffer, n, takes, (let other : n ≢ 0 = some in omega arith), refl)

pub over_taken : (i j : Stream) (buffer : List ℕ) (n : ℕ) → n ≡ 0 → Takes i buffer (Ok n) j → IsOver i j
over_taken i j buffer n none takes = (buffer, subst (λ k. Takes i buffer (Ok k) j) none takes)

module _ {S C F : Type 0} (view : View S C F) (writes : Writes F) where
  -- so many pieces went into the upload, from where it began
  pub record SoFar (count : ℕ) (p q : Feed S F) : Type 0 where
    pub bytes : List ℕ
    pub fed : Fed view writes p count bytes q

  pub none_yet : (p : Feed S F) → SoFar 0 p p
  none_yet p = record { bytes = []; fed = begun }

  pub one_more : (count : ℕ) (p m n : Feed S F) (piece bytes : List ℕ) → SoFar count p m → Gives m.source piece n.source → bytes ≡ piece → WritesPiece view writes m.upload bytes m.store (Ok tt) n.store n.upload → SoFar (count + 1) p n
  one_more count p m n piece bytes far gives same piece_so = record {
    bytes = far.bytes ++ piece;
    fed = goes count far.bytes piece m n far.fed gives (subst (λ b. WritesPiece view writes m.upload b m.store (Ok tt) n.store n.upload) same piece_so);
  }

  -- what calls of the store keep of it, and of the upload
  pub stays_same : (s : S) (u : Upload F) → StaysBy view (KeepsUpload (view.file.handle u.file) (view.file.handle u.file)) s s
  stays_same s u = record {
    keeps = keeps_same (view.file.handle u.file) (view.state s);
    loan = refl;
  }

  pub stays_then : (s m t : S) (u x y : Upload F) → StaysBy view (KeepsUpload (view.file.handle u.file) (view.file.handle x.file)) s m
      → StaysBy view (KeepsUpload (view.file.handle x.file) (view.file.handle y.file)) m t → StaysBy view (KeepsUpload (view.file.handle u.file) (view.file.handle y.file)) s t
  stays_then s m t u x y p q = record {
    keeps = keeps_then (view.file.handle u.file) (view.file.handle x.file) (view.file.handle y.file) (view.state s) (view.state m) (view.state t) p.keeps q.keeps;
    loan = q.loan ∙ p.loan;
  }

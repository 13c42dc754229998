-- What is known of a file into which pieces of a body went.
-- Headlines: `one_more` and `stays_pours`.
use Rattle.std.proofs.Common.{◌≡◌, ◌<◌, ◌++◌, inl, inr, ℕ, List, [], length, Option, Some, IsSome, Result, Ok, Err, refl, sym, subst, ◌∙◌, arith, length-append}
use Rattle.dav_core.specs.declared.dav_error.DavError.{DavError}
use Rattle.dav_core.specs.declared.error.FsError.{FsError}
use Rattle.dav_core.specs.Disk.{Live}
use Rattle.dav_store.specs.Bodies.{BodyState, GivesPiece}
use Rattle.dav_store.specs.Frames.{KeepsOpenBut}
use Rattle.dav_store.specs.View.{View}
use Rattle.dav_walks.specs.Lines.{Line}
use Rattle.dav_walks.specs.Pouring.{FileStays, Poured, Pours, RefusesPiece, Stops, TakesPiece, Writes, WritesFile, begun, goes, most_bytes}
use Rattle.dav_walks.proofs.calls.KeptOpen.{but_same, but_then}

module _ {S C F : Type 0} (view : View S C F) where
  pub stays_same : (s : S) (f : F) → FileStays view s f s f
  stays_same s f = record { handle = refl; keeps = but_same (view.file.handle f) (view.state s); live = refl; loan = refl }

  pub stays_then : (s m t : S) (f g h : F) → FileStays view s f m g → FileStays view m g t h → FileStays view s f t h
  stays_then s m t f g h p q = record {
    handle = q.handle ∙ p.handle;
    keeps = but_then (view.file.handle f) (view.state s) (view.state m) (view.state t) p.keeps (subst (λ n. KeepsOpenBut n (view.state m) (view.state t)) p.handle q.keeps);
    live = subst (λ n. (view.state t).live n ≡ (view.state m).live n) p.handle q.live ∙ p.live;
    loan = q.loan ∙ p.loan;
  }

  -- The file is live still.
  pub still_live : (s t : S) (f h : F) → FileStays view s f t h → IsSome ((view.state s).live (view.file.handle f)) → IsSome ((view.state t).live (view.file.handle h))
  still_live s t f h stays live = subst (λ n. IsSome ((view.state t).live n)) (sym stays.handle) (subst (λ (l : Option Live). IsSome l) (sym stays.live) live)

module _ {S C F : Type 0} (view : View S C F) (writes : Writes F) where
  -- A file that was written stays open.
  pub stays_written : (s t : S) (f h : F) (from : List ℕ) (r : Result Unit FsError) → WritesFile view writes s f from r t h → FileStays view s f t h
  stays_written s t f h from r w = record { handle = w.handle; keeps = w.told.keeps; live = w.told.live; loan = w.lent.loan }

  pub stays_poured : (s : S) (f : F) (b : BodyState) (t : S) (h : F) (n : BodyState) (bytes : List ℕ) → Poured view writes s f b bytes t h n → FileStays view s f t h
  stays_poured s f b _ _ _ _ begun = stays_same view s f
  stays_poured s f b _ _ _ _ (goes front piece m t g h k n before gives w) =
      stays_then view s m t f g h (stays_poured s f b m g k front before) (stays_written m t g h piece (Ok tt) w)

  stays_still : (s t : S) (f h : F) → t ≡ s → h ≡ f → FileStays view s f t h
  stays_still s t f h same file = subst (λ x. FileStays view s f x h) (sym same) (subst (λ x. FileStays view s f s x) (sym file) (stays_same view s f))

  stays_refused : (total : ℕ) (s t : S) (f h : F) (piece : List ℕ) (e : DavError) → RefusesPiece view writes total s f piece e t h → FileStays view s f t h
  stays_refused total s t f h piece e (inl full) = stays_still s t f h full.2 full.3
  stays_refused total s t f h piece e (inr refused) = stays_written s t f h piece (Err refused.0) refused.2

  stays_stopped : (total : ℕ) (s t : S) (f h : F) (b n : BodyState) (r : Line) → Stops view writes total s f b r t h n → FileStays view s f t h
  stays_stopped total s t f h b n (Ok x) stops = stays_still s t f h stops.1 stops.2
  stays_stopped total s t f h b n (Err e) (inl broken) = stays_still s t f h broken.3 broken.4
  stays_stopped total s t f h b n (Err e) (inr refused) = stays_refused total s t f h refused.0 e refused.2

  -- The file that a body went into stays open.
  pub stays_pours : (s t : S) (f h : F) (b n : BodyState) (r : Line) → Pours view writes s f b r t h n → FileStays view s f t h
  stays_pours s t f h b n r p = stays_then view s p.place t f p.file h (stays_poured s f b p.place p.file p.reader p.bytes p.poured)
      (stays_stopped (length p.bytes) p.place t p.file h p.reader n r p.stops)

  -- so many bytes went into the file, from where it was opened
  pub record SoFar (s : S) (f : F) (b : BodyState) (total : ℕ) (t : S) (h : F) (n : BodyState) : Type 0 where
    pub bytes : List ℕ
    pub poured : Poured view writes s f b bytes t h n
    pub count : total ≡ length bytes
    pub short : total < most_bytes

  pub none_yet : (s : S) (f : F) (b : BodyState) → SoFar s f b 0 s f b
  none_yet s f b = record { bytes = []; poured = begun; count = refl; short = omega arith }

  pub one_more : (s m t : S) (f g h : F) (b k n : BodyState) (total sum : ℕ) (piece bytes : List ℕ) → SoFar s f b total m g k → GivesPiece k (Ok (Some piece)) n
      → bytes ≡ piece → TakesPiece view writes total m g bytes (Ok sum) t h → SoFar s f b sum t h n
  one_more s m t f g h b k n total sum piece bytes far gives same takes =
      let taken : TakesPiece view writes total m g piece (Ok sum) t h = subst (λ p. TakesPiece view writes total m g p (Ok sum) t h) same takes in
      record {
        bytes = far.bytes ++ piece;
        poured = goes far.bytes piece m t g h k n far.poured gives taken.2;
        count = omega (arith, taken.0, far.count, length-append far.bytes piece);
        short = taken.1;
      }

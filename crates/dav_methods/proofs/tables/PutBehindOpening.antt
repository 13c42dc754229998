-- A PUT from the opening of its file on.
use Rattle.std.proofs.Common.{◌≡◌, ◌||◌, Bool, true, false, ℕ, None, Result, Ok, Err, IfOk, length, refl, subst, ◌∙◌}
use Rattle.dav_core.specs.declared.error.FsError.{FsError}
use Rattle.dav_core.specs.declared.handle.OpenOptions.{OpenOptions}
use Rattle.dav_core.specs.DavPath.{WebPath}
use Rattle.dav_core.specs.Statuses.{of_fs}
use Rattle.dav_store.specs.Bodies.{BodyState}
use Rattle.dav_store.specs.Frames.{KeepsOpen, KeepsOpenBut, OpensOne}
use Rattle.dav_store.specs.View.{View, Closes}
use Rattle.dav_model.specs.declared.outcome.Outcome.{Outcome}
use Rattle.dav_walks.specs.Lines.{Line}
use Rattle.dav_methods.specs.Lines.{Given, unless}
use Rattle.dav_walks.specs.Pouring.{FileStays, Pours, Stops, Writes}
use Rattle.dav_methods.specs.Putting.{AfterChecks, AfterOpening, put_options}
use Rattle.dav_walks.proofs.calls.KeptOpen.{but_kept, but_then, open_closed}

or_true : (b : Bool) → (b || true) ≡ true
or_true true = refl
or_true false = refl

module _ {S C F : Type 0} (view : View S C F) (writes : Writes F) (c : C) where
  -- a file was opened, the body went into it, and it was closed
  pub put_ends : (path : WebPath) (outcome : Outcome) (b n : BodyState) (s m k t : S) (how : OpenOptions) (f h : F) (ended : Line) (r : Given) → how ≡ put_options
      → view.opens s c path how (Ok f) m → OpensOne view.file how (view.state s) (Ok f) (view.state m) → Pours view writes m f b ended k h n
      → Closes view k h t → r ≡ unless ended outcome → AfterChecks view writes c (Ok outcome) path b s r t n
  put_ends path outcome b n s m k t how f h ended r same opens one pours closes is = (
    Ok f,
    m,
    subst (λ o. view.opens s c path o (Ok f) m) same opens,
    subst (λ o. OpensOne view.file o (view.state s) (Ok f) (view.state m)) same one,
    record { ended = ended; full = k; file = h; pours = pours; closes = closes; answer = is },
  )

  -- no file was opened
  pub put_refused : (path : WebPath) (outcome : Outcome) (b : BodyState) (s m : S) (how : OpenOptions) (e : FsError) (r : Given) → how ≡ put_options
      → view.opens s c path how (Err e) m → OpensOne view.file how (view.state s) (Err e) (view.state m) → r ≡ Err (of_fs e)
      → AfterChecks view writes c (Ok outcome) path b s r m b
  put_refused path outcome b s m how e r same opens one is = (
    Err e,
    m,
    subst (λ o. view.opens s c path o (Err e) m) same opens,
    subst (λ o. OpensOne view.file o (view.state s) (Err e) (view.state m)) same one,
    ((refl, is), refl),
  )

  -- Nothing is left open.
  pub put_leaves : (s m k t : S) (how : OpenOptions) (f h : F) → OpensOne view.file how (view.state s) (Ok f) (view.state m) → FileStays view m f k h → Closes view k h t
      → KeepsOpen (view.state s) (view.state t)
  put_leaves s m k t how f h one stays closes =
      let own = view.file.handle f in
      let shut : KeepsOpenBut own (view.state k) (view.state t) = subst (λ n. KeepsOpenBut n (view.state k) (view.state t)) stays.handle
      (but_kept (view.file.handle h) (view.state k) (view.state t) closes.done.keeps) in
      open_closed own (view.state s) (view.state t)
      (but_then own (view.state s) (view.state m) (view.state t) one.others (but_then own (view.state m) (view.state k) (view.state t) stays.keeps shut))
      one.fresh (subst (λ n. (view.state t).live n ≡ None) stays.handle closes.done.live)

  stops_read : (total : ℕ) (s t : S) (f h : F) (b n : BodyState) (r : Line) (outcome : Outcome) (g : Given) → Stops view writes total s f b r t h n → g ≡ unless r outcome
      → IfOk g (λ o. n.ended ≡ true)
  stops_read total s t f h b n (Ok x) outcome (Ok o) stops is = stops.0.ended ∙ or_true b.ended
  stops_read total s t f h b n (Err e) outcome (Ok o) stops is = cc
  stops_read total s t f h b n r outcome (Err e) stops is = tt

  opened_read : (opened : Result F FsError) (outcome : Outcome) (b n : BodyState) (s t : S) (r : Given) → AfterOpening view writes c opened outcome b s r t n → IfOk r (λ o. n.ended ≡ true)
  opened_read (Ok f) outcome b n s t r into =
      let p = into.pours in stops_read (length p.bytes) p.place into.full p.file into.file p.reader n into.ended outcome r p.stops into.answer
  opened_read (Err e) outcome b n s t (Ok o) ends = let is = ends.0.1 in cc
  opened_read (Err e) outcome b n s t (Err o) ends = tt

  -- Where an answer is given, the reader gave its last piece.
  pub put_read : (path : WebPath) (outcome : Outcome) (b n : BodyState) (s t : S) (r : Given) → AfterChecks view writes c (Ok outcome) path b s r t n → IfOk r (λ o. n.ended ≡ true)
  put_read path outcome b n s t r after = opened_read after.0 outcome b n after.1 t r after.4

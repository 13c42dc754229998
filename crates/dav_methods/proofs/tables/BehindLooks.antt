-- What follows the looks of a COPY or MOVE, and the reading of its fields.
-- Headlines: `carries` and `copy_moves`.
use Rattle.std.proofs.Common.{◌≡◌, ◌⊎◌, ℕ, List, [], ◌∷◌, Bool, Result, Ok, Err, inl, inr, ap, subst}
use Rattle.dav_core.specs.declared.dav_error.DavError.{DavError}
use Rattle.dav_core.specs.declared.dav_error.DavError.TheVariants.{NoMemory}
use Rattle.dav_core.specs.declared.error.FsError.{FsError}
use Rattle.dav_core.specs.declared.method.DavMethod.{DavMethod}
use Rattle.dav_core.specs.DavPath.{WebPath}
use Rattle.dav_core.specs.Info.{Info}
use Rattle.dav_core.specs.Tree.{is_dir}
use Rattle.dav_store.specs.View.{View, Listings}
use Rattle.dav_model.specs.CarryPlans.{method_of}
use Rattle.dav_model.specs.Conditions.{Fields}
use Rattle.dav_model.specs.Destination.{Asks}
use Rattle.dav_model.specs.Overlap.{overlap}
use Rattle.dav_model.specs.declared.asked.Asked.{Asked}
use Rattle.dav_walks.specs.Lines.{Line, fails_when}
use Rattle.dav_methods.specs.Carrying.{Arrives, Carries, CopyMoves, Leaves, may_leave}
use Rattle.dav_methods.specs.Deleting.{LooksAtLink}
use Rattle.dav_methods.specs.Lines.{Given, first_of, no_parent, unmet}
use Rattle.dav_methods.specs.Table.{Below, Next, Run, Unless}
use Rattle.dav_methods.proofs.tables.TableLines.{line_behind}

module _ {S C F L E : Type 0} (view : View S C F) (lists : Listings S C L E) (c : C) (path : WebPath) (fields : Fields) (asked : Asked) where
  abbrev arrival : Bool → Run S
  arrival dir = LooksAtLink view lists c asked.to (Arrives view lists c asked (record { from = path; to = asked.to; dir = dir }))

  -- The preconditions were judged by what was found at the source.
  pub leaves : (info : Info) (method : DavMethod) (dir : Bool) (may : Line) (s t : S) (r : Given) → method ≡ method_of asked.moving → dir ≡ is_dir info.kind
      → (may ≡ Err NoMemory) ⊎ (may ≡ unmet method fields (Ok info)) → Next (Below view c asked.to (Unless may (arrival dir))) s r t
      → Next (Leaves view lists c path fields asked (Ok info)) s r t
  leaves info method dir may s t r by kind judged (inl ends) = inl ends
  leaves info method dir may s t r by kind judged (inr (up, m, looks, h)) =
      let right = subst (λ d. Next (Unless (no_parent up) (Unless may (arrival d))) m r t) kind h in
      let met = line_behind (no_parent up) (unmet method fields (Ok info)) may (arrival (is_dir info.kind)) m r t judged right in
      inr (up, m, looks, subst (λ (k : DavMethod). Next (Unless (no_parent up) (Unless (unmet k fields (Ok info)) (arrival (is_dir info.kind)))) m r t) by met)

  -- Nothing refused the source, and the paths lie apart.
  pub carries : (folds : Bool) (info : Info) (s m t : S) (r : Given) → folds ≡ view.folding s → view.looks s c path (Ok info) m
      → (◌≡◌ {A = Line} (Ok tt) (Err NoMemory)) ⊎ (Ok tt ≡ fails_when (overlap folds path.names asked.to.names) 403) → Next (Leaves view lists c path fields asked (Ok info)) m r t
      → Next (Carries view lists c path fields (Ok asked)) s r t
  carries folds info s m t r folding looks (inl none) h = absurd (clash none)
    where
      clash : ◌≡◌ {A = Line} (Ok tt) (Err NoMemory) → ⊥
      clash e = cc
  carries folds info s m t r folding looks (inr apart) h =
      let line : Ok tt ≡ may_leave folds path asked.to (Ok info) = ap (λ l. first_of (Ok tt ∷ l ∷ [])) apart in
      let after = subst (λ l. Next (Unless l (Leaves view lists c path fields asked (Ok info))) m r t) line h in
      inr (Ok info, m, looks, subst (λ b. Next (Unless (may_leave b path asked.to (Ok info)) (Leaves view lists c path fields asked (Ok info))) m r t) folding after)

module _ {S C F L E : Type 0} (view : View S C F) (lists : Listings S C L E) (c : C) (path : WebPath) (fields : Fields) where
  -- what the fields ask for, where memory may be refused
  pub copy_moves : (moving : Bool) (prefix : List ℕ) (said : Result Asked DavError) (s t : S) (r : Given) → (said ≡ Err NoMemory) ⊎ Asks moving prefix fields said
      → Next (Carries view lists c path fields said) s r t → Next (CopyMoves view lists c moving prefix path fields) s r t
  copy_moves moving prefix said s t r (inl none) h = short (subst (λ (a : Result Asked DavError). Next (Carries view lists c path fields a) s r t) none h)
    where
      short : Next (Carries view lists c path fields (Err NoMemory)) s r t → Next (CopyMoves view lists c moving prefix path fields) s r t
      short (inl ends) = inl ends
      short (inr ends) = inl ends
  copy_moves moving prefix said s t r (inr asks) (inl ends) = inl ends
  copy_moves moving prefix said s t r (inr asks) (inr h) = inr (said, asks, h)

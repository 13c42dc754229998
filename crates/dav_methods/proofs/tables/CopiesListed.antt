-- What a COPY or a MOVE may answer over a store that refuses few things.
-- Headline: `carry_listed`.
use Rattle.std.proofs.Common.{◌≡◌, ◌⊎◌, ◌&&◌, inl, inr, ℕ, Bool, true, false, not, List, codes, Option, None, Some, Result, Ok, Err, refl, sym, ap, ◌∙◌}
use Rattle.dav_io.specs.Counts.{Rose}
use Rattle.dav_core.specs.declared.dav_error.DavError.{DavError}
use Rattle.dav_core.specs.declared.dav_error.DavError.TheVariants.{Status}
use Rattle.dav_core.specs.declared.parse_error.ParseError.{ParseError}
use Rattle.dav_core.specs.declared.parse_error.ParseError.TheVariants as parse
use Rattle.dav_core.specs.declared.method.DavMethod.{DavMethod}
use Rattle.dav_core.specs.DavPath.{WebPath}
use Rattle.dav_core.specs.Grammar.{begins_with_slash, parsed}
use Rattle.dav_core.specs.Statuses.{closes, lacks_memory, status_of}
use Rattle.dav_core.proofs.UnchangedLemmas.{other_keys}
use Rattle.dav_store.specs.View.{Listings, View}
use Rattle.dav_model.specs.Conditions.{Fields, first_bytes, reads}
use Rattle.dav_model.specs.declared.asked.Asked.{Asked}
use Rattle.dav_methods.specs.Answers.{RefusesUsually}
use Rattle.dav_methods.specs.Carrying.{CopyMoves, may_leave, may_take_place}
use Rattle.dav_model.specs.WellFormed.{is_among}
use Rattle.dav_model.specs.Written.{MayEnd, halt_statuses, may_close}
use Rattle.dav_model.specs.Causes.{AsksBadly, IsBad, Spares}
use Rattle.dav_model.specs.CarryPlans.{method_of}
use Rattle.dav_model.specs.Destination.{Asks, IsDestination, IsPlace, asked_by, depth_of, overwrite_of, path_or_refusal}
use Rattle.dav_walks.specs.Lines.{fails_when}
use Rattle.dav_methods.specs.Lines.{is_there, refused, refused_but_missing, unmet}
use Rattle.dav_model.specs.Overlap.{overlap}
use Rattle.dav_walks.specs.Pouring.{Writes}
use Rattle.dav_methods.specs.Table.{Next}
use Rattle.dav_methods.proofs.tables.AnswersListed.{Bad, Counts, Done, Refused, RunsWell, calls_listed, fits, keeps_well, parent_judged, usually}
use Rattle.dav_methods.proofs.tables.LinesListed.{IsListed, due_412, fine_two, missing_fine, not_500, refused_fine, undue, unmet_fine, when_fine}
use Rattle.dav_methods.proofs.tables.TablesKept.{CarryJudges, carry_keeps}

-- what a field says of replacing
abbrev replacing : Fields → Option Bool
replacing fields = overwrite_of (first_bytes fields (codes "overwrite"))

-- What is asked for is to replace nothing only where the field says so.
by_spares : (moving : Bool) (to : Result WebPath DavError) (replaces alone : Option Bool) (asked : Asked) → asked_by moving to replaces alone ≡ Ok asked → asked.replaces ≡ false → replaces ≡ Some false
by_spares moving (Err e) replaces alone asked is none = cc
by_spares moving (Ok to) None alone asked is none = cc
by_spares moving (Ok to) (Some replaces) None asked is none = cc
by_spares moving (Ok to) (Some replaces) (Some alone) asked is none =
    let given : Asked = record { moving = moving; to = to; replaces = replaces; alone = alone } in
    let same : given ≡ asked = let e : Ok given ≡ Ok asked = is in cc in
    ap Some (ap (λ (a : Asked). a.replaces) same ∙ none)

asked_spares : (moving : Bool) (prefix : List ℕ) (fields : Fields) (asked : Asked) → Asks moving prefix fields (Ok asked) → asked.replaces ≡ false → replacing fields ≡ Some false
asked_spares moving prefix fields asked (to, is, by) none = by_spares moving to (replacing fields) (depth_of moving (first_bytes fields (codes "depth"))) asked (sym by) none

when_both : (a b : Bool) → (a && not b) ≡ true → b ≡ false
when_both true true e = cc
when_both true false e = refl
when_both false b e = cc

module _ (verb : DavMethod) (prefix : List ℕ) (fields : Fields) where
  -- ---- what the fields ask for

  -- Such an error may be answered, if the fields are the cause of 400. It is no precondition.
  abbrev IsMild : Type 0 → DavError → Type 0
  IsMild rose e = (lacks_memory e ≡ true)
      ⊎ ((is_among (status_of e) (halt_statuses verb) ≡ true) × (status_of e ≡ 500 → rose) × (closes e ≡ true → (status_of e ≡ 405) × (may_close verb ≡ true)) × (status_of e ≡ 412 → ⊥))

  -- Where it is refused, it is so by such an error.
  abbrev Mild : Type 0 → {T : Type 0} → Result T DavError → Type 0
  Mild rose (Ok x) = Unit {0}
  Mild rose (Err e) = IsMild rose e

  path_mild : is_among 400 (halt_statuses verb) ≡ true → (rose : Type 0) (path : Result WebPath ParseError) → Mild rose (path_or_refusal path)
  path_mild bad rose (Ok path) = tt
  path_mild bad rose (Err parse.InvalidPath) = inr (bad, not_500 400 refl, (λ c. cc), other_keys 400 412 refl)
  path_mild bad rose (Err parse.ForbiddenPath) = inr (refl, not_500 403 refl, (λ c. cc), other_keys 403 412 refl)
  path_mild bad rose (Err parse.PrefixMismatch) = inr (refl, not_500 404 refl, (λ c. cc), other_keys 404 412 refl)
  path_mild bad rose (Err parse.NotText) = inr (refl, not_500 404 refl, (λ c. cc), other_keys 404 412 refl)
  path_mild bad rose (Err parse.NoMemory) = inl refl

  bad_mild : is_among 400 (halt_statuses verb) ≡ true → (rose : Type 0) → IsMild rose (Status 400)
  bad_mild bad rose = inr (bad, not_500 400 refl, (λ c. cc), other_keys 400 412 refl)

  place_mild : is_among 400 (halt_statuses verb) ≡ true → (rose : Type 0) (slash : Bool) (under text : List ℕ) (to : Result WebPath DavError) → IsPlace slash under text to → Mild rose to
  place_mild bad rose true under text to is = rw is (path_mild bad rose (parsed text under))
  place_mild bad rose false under text to (inl (uri, spells, has, is)) = rw is (path_mild bad rose _)
  place_mild bad rose false under text to (inr (unaddressed, is)) = rw is (bad_mild bad rose)

  destination_mild : is_among 400 (halt_statuses verb) ≡ true → (rose : Type 0) (under : List ℕ) (field : Option (List ℕ)) (to : Result WebPath DavError) → IsDestination under field to → Mild rose to
  destination_mild bad rose under None to is = rw is (bad_mild bad rose)
  destination_mild bad rose under (Some text) to is = place_mild bad rose (begins_with_slash text) under text to is

  by_mild : is_among 400 (halt_statuses verb) ≡ true → (rose : Type 0) (moving : Bool) (to : Result WebPath DavError) (replaces alone : Option Bool) → Mild rose to → Mild rose (asked_by moving to replaces alone)
  by_mild bad rose moving (Err e) replaces alone mild = mild
  by_mild bad rose moving (Ok to) None alone mild = bad_mild bad rose
  by_mild bad rose moving (Ok to) (Some replaces) None mild = bad_mild bad rose
  by_mild bad rose moving (Ok to) (Some replaces) (Some alone) mild = tt

  asked_mild : is_among 400 (halt_statuses verb) ≡ true → (rose : Type 0) (moving : Bool) (asked : Result Asked DavError) → Asks moving prefix fields asked → Mild rose asked
  asked_mild bad rose moving asked (to, is, by) =
      rw by (by_mild bad rose moving to (replacing fields) (depth_of moving (first_bytes fields (codes "depth"))) (destination_mild bad rose prefix (first_bytes fields (codes "destination")) to is))

  -- Such an error is due to what the fields ask for.
  mild_listed : (rose : Type 0) (moving : Bool) (e : DavError) → (AsksBadly moving prefix fields → IsBad verb prefix fields) → Asks moving prefix fields (Err e) → IsMild rose e
      → IsListed verb prefix fields rose e
  mild_listed rose moving e amiss asks (inl short) = inl short
  mild_listed rose moving e amiss asks (inr (listed, failed, close, met)) =
      inr (listed, failed, close, record { asked = λ is. amiss (e, asks, is); unmet = λ is. absurd (met is) })

  neither_reads : (moving : Bool) → reads (method_of moving) ≡ false
  neither_reads true = refl
  neither_reads false = refl

  module _ {S C F L E : Type 0} (view : View S C F) (lists : Listings S C L E) (writes : Writes F) (c : C) (few : RefusesUsually view lists writes c) where
    -- COPY, and MOVE
    pub carry_listed : (moving : Bool) → is_among 400 (halt_statuses verb) ≡ true → (AsksBadly moving prefix fields → IsBad verb prefix fields) → is_among 409 (halt_statuses verb) ≡ true
        → is_among 412 (halt_statuses verb) ≡ true → (replacing fields ≡ Some false → Spares verb fields) → MayEnd verb 201 → MayEnd verb 204 → (path : WebPath)
        → RunsWell verb prefix fields view (Next (CopyMoves view lists c moving prefix path fields))
    carry_listed moving bad amiss up own spared new old path =
        keeps_well verb prefix fields view lists writes c few (Next (CopyMoves view lists c moving prefix path fields))
        (λ s. carry_keeps view lists writes c (Counts verb prefix fields view lists writes c few s) (Refused verb prefix fields view lists writes c few s) (Bad verb prefix fields view lists writes c few s)
        (Done verb prefix fields view lists writes c few) (calls_listed verb prefix fields view lists writes c few s) moving prefix path fields (judges s) (inl (refl, new)) (inr (refl, old)))
      where
        Rises : S → S → Type 0
        Rises s t = Rose (view.state s).faults (view.state t).faults

        judges : (s : S) → CarryJudges view lists writes c (Counts verb prefix fields view lists writes c few s) (Refused verb prefix fields view lists writes c few s) (Bad verb prefix fields view lists writes c few s)
            (Done verb prefix fields view lists writes c few) moving prefix path fields
        judges s = record {
          asked = λ e t asks. mild_listed (Rises s t) moving e amiss asks (asked_mild bad (Rises s t) moving (Err e) asks);
          leaves = λ folds to found t left.
              fits verb prefix fields view lists writes c few s (may_leave folds path to found) t
              (fine_two verb prefix fields (Rises s t) (refused found) (fails_when (overlap folds path.names to.names) 403)
              (refused_fine verb prefix fields (view.state s) (view.state t) found (usually verb prefix fields view lists writes c few s found t left))
              (when_fine verb prefix fields (Rises s t) (overlap folds path.names to.names) 403 refl (not_500 403 refl) (λ b. undue verb prefix fields 403 refl refl)));
          parent = parent_judged verb prefix fields view lists writes c few up s;
          met = λ moves found t.
              fits verb prefix fields view lists writes c few s (unmet (method_of moves) fields found) t
              (unmet_fine verb prefix fields (Rises s t) (method_of moves) found own (neither_reads moves));
          arrives = λ asked asks there t left.
              fits verb prefix fields view lists writes c few s (may_take_place asked.replaces there) t
              (fine_two verb prefix fields (Rises s t) (refused_but_missing there) (fails_when (is_there there && not asked.replaces) 412)
              (missing_fine verb prefix fields (view.state s) (view.state t) there (usually verb prefix fields view lists writes c few s there t left))
              (when_fine verb prefix fields (Rises s t) (is_there there && not asked.replaces) 412 own (not_500 412 refl)
              (λ both. due_412 verb prefix fields (inr (spared (asked_spares moving prefix fields asked asks (when_both (is_there there) asked.replaces both)))))));
        }

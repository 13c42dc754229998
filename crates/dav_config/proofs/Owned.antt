-- What was found over a handler's own store, as its clause says it.
use Rattle.std.proofs.Common.{◌≡◌, ◌∙◌, Bool, true, false, not, Option, None, Some, Result, Ok, Err, refl, sym, ap, subst}
use Rattle.std.specs.Prelude.{IfOk}
use Rattle.dav_model.specs.declared.target.Target.{Target}
use Rattle.dav_model.specs.declared.target.Target.TheVariants.{At, Methods, Refused, Writes}
use Rattle.dav_model.specs.Allowing.{allowing}
use Rattle.dav_model.specs.Due.{query}
use Rattle.dav_model.specs.Gates.{Bulk, admitted, takes_much}
use Rattle.dav_model.specs.Head.{refusal}
use Rattle.dav_store.specs.declared.body_reader.BodyReader.{Ghosts as ReaderGhosts}
use Rattle.dav_store.specs.Bodies.{BodyState}
use Rattle.dav_config.specs.declared.asked.Content.{Content}
use Rattle.dav_config.specs.declared.asked.Content.TheVariants.{Whole, Behind}
use Rattle.dav_config.specs.declared.finding.Found.{Found}
use Rattle.dav_config.specs.Finding.{AnswersBy, FindsFor, IsGated, Says, SeesBehind, SeesBulk, brought, loan_in}
use Rattle.dav_config.specs.Handling.{AnswersTo, Asking, Handles, HandlesAll, IsTarget, ReadsBehind, ReadsUnless, Served, Sides}
use Rattle.dav_config.specs.Owning.{AnswersAlone, AnswersOver, SaysAlone, sought_of}
use Rattle.dav_config.specs.Responses.{IsBare, Responded}
use Rattle.dav_config.specs.Writing.{Brought, behind, order}
use Rattle.dav_config.proofs.AsBefore.{gives_over, says_bare, writes_over}
use Rattle.dav_config.proofs.Failures.{fails_for}

-- ---- the gates

-- a body behind a reader stays behind it
bulk_read : (takes : Bool) (b : BodyState) (bulk : Bulk) (n : Brought) → SeesBulk takes (behind b) bulk n → (k : BodyState) × (n ≡ behind k) × ReadsUnless takes b bulk k
bulk_read true b bulk n sees = (b, sees.1, (sees.0, refl))
bulk_read false b bulk n sees = sees

behind_read : (target : Target) (b : BodyState) (bulk : Bulk) (n : Brought) → SeesBehind target (behind b) bulk n → (k : BodyState) × (n ≡ behind k) × ReadsBehind target b bulk k
behind_read (Refused status close) b bulk n same = (b, same, refl)
behind_read Methods b bulk n same = (b, same, refl)
behind_read (Writes method path) b bulk n same = (b, same, refl)
behind_read (At method path) b bulk n sees = bulk_read (takes_much method) b bulk n sees

target_of : {C : Type 0} (asking : Asking C) (stored : Bool) (b : BodyState) (target : Target) (n : Brought) → IsGated (sought_of asking) stored (behind b) target n
    → (k : BodyState) × (n ≡ behind k) × IsTarget asking stored b target k
target_of asking stored b target n is =
    let read = behind_read (admitted asking.settings stored asking.head) b is.bulk n is.sees in
    (read.0, read.1, record { bulk = is.bulk; reads = read.2; gated = is.gated })

same_behind : (b k : BodyState) → behind b ≡ behind k → b ≡ k
same_behind b k e = cc

not_not : (b : Bool) → b ≡ not (not b)
not_not true = refl
not_not false = refl

-- ---- what was found

module _ {S C F L E : Type 0} (served : Served S C F L E) (asking : Asking C) (r : Responded F) where
  abbrev sides : S → BodyState → Sides S
  sides s b = record { store = Some s; body = b }

  found_answers : (target : Target) (b between : BodyState) (s t : S) (n : Brought) (found : Found F) → FindsFor served target (sought_of asking) (behind between) s (Ok found) t n
      → served.view.loan t ≡ served.view.loan s → Says found r
      → (k : BodyState) × (n ≡ behind k) × AnswersTo served target asking (sides s between) r (sides t k)
  found_answers (Refused status close) b between s t n found finds loan says =
      (between, finds.body, (says_bare (refusal asking.head.headers status close) found r (finds.found found refl) says, ap (λ x. sides x between) finds.store))
  found_answers Methods b between s t n found finds loan says = (
    between,
    finds.body,
    (
      subst (λ v. IsBare (allowing asking.settings.allow v) r) (not_not (served.void s))
          (says_bare (allowing asking.settings.allow (served.void s)) found r (finds.found found refl) says),
      ap (λ x. sides x between) finds.store,
    ),
  )
  found_answers (At method path) b between s t n found (at, e, set) loan says = (
    between,
    e,
    (
      record {
        before = s;
        after = t;
        was = refl;
        is = refl;
        moment = set;
        gives = gives_over served asking.credentials (served.with_now s asking.now) t found r (query asking.settings asking.head.headers method path) at (loan ∙ sym set.loan) says;
      },
      refl,
    ),
  )
  found_answers (Writes method path) b between s t n found (w, set) loan says =
      let over = writes_over served asking.credentials (served.with_now s asking.now) t found r (order asking.settings.prefix method path asking.head.headers) between n w (loan ∙ sym set.loan) says in
      (over.0, over.1, record { before = s; after = t; was = refl; is = refl; moment = set; writes = over.2 })

  -- without a store
  alone_answers : (target : Target) (b : BodyState) → SaysAlone target (sought_of asking) r → AnswersTo served target asking (record { store = None; body = b }) r (record { store = None; body = b })
  alone_answers (Refused status close) b says = (says, refl)
  alone_answers Methods b says = (says, refl)
  alone_answers (At method path) b says = absurd says
  alone_answers (Writes method path) b says = absurd says

  alone_handles : (b : BodyState) (n : Brought) → AnswersAlone (sought_of asking) (behind b) r n
      → (k : BodyState) × (n ≡ behind k) × Handles served asking (record { store = None; body = b }) r (record { store = None; body = k })
  alone_handles b n is =
      let at = target_of asking false b is.target n is.gated in
      let answers = alone_answers is.target at.0 is.says in (
        at.0,
        at.1,
        record {
          target = is.target;
          between = at.0;
          asks = at.2;
          answers = answers;
          failed = fails_for served is.target asking (record { store = None; body = b }) (record { store = None; body = at.0 }) at.0 r at.2 answers;
        },
      )

  by_handles : (b : BodyState) (s t : S) (n : Brought) → AnswersBy served (sought_of asking) (behind b) s r t n → served.view.loan t ≡ served.view.loan s
      → (k : BodyState) × (n ≡ behind k) × Handles served asking (sides s b) r (sides t k)
  by_handles b s t n is loan =
      let at = target_of asking (not (served.void s)) b is.serves.target is.serves.between is.serves.gated in
      let finds = subst (λ x. FindsFor served is.serves.target (sought_of asking) x s (Ok is.found) t n) at.1 is.serves.finds in
      let answers = found_answers is.serves.target b at.0 s t n is.found finds loan is.says in (
        answers.0,
        answers.1,
        record {
          target = is.serves.target;
          between = at.0;
          asks = at.2;
          answers = answers.2;
          failed = fails_for served is.serves.target asking (sides s b) (sides t answers.0) at.0 r at.2 answers.2;
        },
      )

  over_handles : (b : BodyState) (old new : Option S) (n : Brought) → AnswersOver served (sought_of asking) (behind b) old r new n
      → (k : BodyState) × (n ≡ behind k) × Handles served asking (record { store = old; body = b }) r (record { store = new; body = k })
  over_handles b None None n is = alone_handles b n is
  over_handles b None (Some t) n is = absurd is
  over_handles b (Some s) None n is = absurd is
  over_handles b (Some s) (Some t) n is = by_handles b s t n is.0 is.1

-- ---- the reader was let go of

module _ {S C F L E B : Type 0} (served : Served S C F L E) (reader : ReaderGhosts B) (asking : Asking C) (body : B) where
  -- its content is a reader still
  pub is_behind : (content : Content B) → loan_in reader.loan content ≡ loan_in reader.loan (Behind body)
      → (after : B) × (reader.loan after ≡ reader.loan body) × (brought reader.state content ≡ behind (reader.state after))
  is_behind (Whole bytes) same = cc
  is_behind (Behind after) same = let on : reader.loan after ≡ reader.loan body = cc in (after, on, refl)

  pub let_go : {X : Type 0} (result : Result (Responded F) X) (old new : Option S) (content : Content B) → loan_in reader.loan content ≡ loan_in reader.loan (Behind body)
      → IfOk result (λ r. AnswersOver served (sought_of asking) (behind (reader.state body)) old r new (brought reader.state content))
      → IfOk result (λ r. HandlesAll served reader asking old body r new)
  let_go (Ok r) old new content same is =
      let left = is_behind content same in
      let handles = over_handles served asking r (reader.state body) old new (brought reader.state content) is in (
        left.0,
        left.1,
        subst (λ k. Handles served asking (record { store = old; body = reader.state body }) r (record { store = new; body = k }))
            (same_behind handles.0 (reader.state left.0) (sym handles.1 ∙ left.2)) handles.2,
      )
  let_go (Err e) old new content same is = tt

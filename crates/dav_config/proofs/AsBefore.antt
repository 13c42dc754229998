-- What was found by a request whose body is behind a reader, as a handler's clause says it.
use Rattle.std.proofs.Common.{◌≡◌, ◌⊎◌, inl, inr, ℕ, List, true, false, Result, Ok, Err, ap, subst}
use Rattle.dav_io.specs.declared.fields.Field.{Field}
use Rattle.dav_core.specs.declared.dav_error.DavError.{DavError}
use Rattle.dav_core.specs.declared.dav_error.DavError.TheVariants as dav
use Rattle.dav_core.specs.declared.method.DavMethod.{DavMethod}
use Rattle.dav_core.specs.declared.method.DavMethod.TheVariants.{Copy, Delete, MkAddressbook, MkCalendar, MkCol, Move, Put}
use Rattle.dav_core.specs.Statuses.{lacks_memory}
use Rattle.dav_model.specs.declared.outcome.Outcome.{Outcome}
use Rattle.dav_model.specs.Calls.{AsksUnlessKnown, AtMostUnlessKnown, calls_to_send}
use Rattle.dav_model.specs.Conditions.{Fields}
use Rattle.dav_model.specs.Due.{Query}
use Rattle.dav_model.specs.Head.{Reply, is_set, is_well_known}
use Rattle.dav_store.specs.Bodies.{BodyState}
use Rattle.dav_methods.specs.Lines.{Given as GivenBy}
use Rattle.dav_get.specs.Calls.{fields_given, status_given}
use Rattle.dav_get.specs.Heard.{Heard}
use Rattle.dav_get.specs.Table.{Given}
use Rattle.dav_get.specs.Told.{IsRightFor}
use Rattle.dav_config.specs.declared.finding.Found.{Found}
use Rattle.dav_config.specs.Handling.{GivesOver, Served}
use Rattle.dav_config.specs.Responses.{IsBare, Responded, Responds, SaysHead}
use Rattle.dav_config.specs.Writing.{Brought, ByTable, Order, Tells, WritesOver, behind}
use Rattle.dav_config.specs.Finding.{FindsAt, FindsWritten, IsAlone, IsFoundFor, IsFoundOf, Says, SaysBody}
use Rattle.http.specs.Response.{head_of}

says_as : {F : Type 0} (status : ℕ) (fields : List Field) (found : Found F) (r : Responded F) → found.outcome.status ≡ status → found.outcome.fields ≡ fields → Says found r
    → SaysHead status fields (head_of r)
says_as status fields found r s f says =
    subst (λ n. SaysHead n fields (head_of r)) s (subst (λ x. SaysHead found.outcome.status x (head_of r)) f says.head)

pub says_bare : {F : Type 0} (reply : Reply) (found : Found F) (r : Responded F) → IsAlone reply found → Says found r → IsBare reply r
says_bare reply found r alone says = record { head = says_as reply.status reply.fields found r alone.status alone.fields says; body = subst (λ b. SaysBody b r) alone.body says.body }

lacks_none : (e : DavError) → lacks_memory e ≡ false → e ≡ dav.NoMemory → ⊥
lacks_none e has same = let wants : lacks_memory e ≡ true = ap lacks_memory same in cc

given_had : {F : Type 0} (fields : Fields) (given : Given F) (found : Found F) → IsFoundFor fields given (Ok found) → given ≡ Err dav.NoMemory → ⊥
given_had fields (Ok given) found is e = cc
given_had fields (Err e) found is same = lacks_none e is.0 (cc)

had : {A : Type 0} (result : Result A DavError) (X : Type 0) → (result ≡ Err dav.NoMemory → ⊥) → (result ≡ Err dav.NoMemory) ⊎ X → X
had result X was (inl e) = absurd (was e)
had result X was (inr x) = x

responds_found : {F : Type 0} (fields : Fields) (given : Given F) (found : Found F) (r : Responded F) → IsFoundFor fields given (Ok found) → Says found r → Responds fields given r
responds_found fields (Ok given) found r is says = record {
  head = says_as given.0.status given.0.fields found r (ap (λ (o : Outcome). o.status) is.0) (ap (λ (o : Outcome). o.fields) is.0) says;
  body = subst (λ b. SaysBody b r) is.1 says.body;
}
responds_found fields (Err e) found r is says = says_bare _ found r is.1 says

tells_found : {F : Type 0} (fields : Fields) (given : GivenBy) (found : Found F) (r : Responded F) → IsFoundOf fields given (Ok found) → Says found r → Tells fields given r
tells_found fields (Ok outcome) found r is says = record {
  head = says_as outcome.status outcome.fields found r (ap (λ (o : Outcome). o.status) is.0) (ap (λ (o : Outcome). o.fields) is.0) says;
  body = subst (λ b. SaysBody b r) is.1 says.body;
}
tells_found fields (Err e) found r is says = (is.0, says_bare _ found r is.1 says)

module _ {S C F L E : Type 0} (served : Served S C F L E) (c : C) (s t : S) (found : Found F) (r : Responded F) where
  -- a GET or HEAD
  pub gives_over : (q : Query) → FindsAt served q c s (Ok found) t → served.view.loan t ≡ served.view.loan s → Says found r → GivesOver served q c s r t
  gives_over q at loan says =
      let was : at.given ≡ Err dav.NoMemory → ⊥ = given_had q.fields at.given found at.found in
      record {
        given = at.given;
        gives = record {
          framed = at.gives.framed;
          sound = at.gives.sound;
          heard = had at.given (Heard served.view served.lists q c s at.given t) was at.gives.heard;
          right = λ looked opened listed shows. had at.given (IsRightFor served.view q looked opened listed s at.given t) was (at.gives.right looked opened listed shows);
          asks = λ calls some few. had at.given (AsksUnlessKnown calls (is_well_known q.settings q.method q.path) (is_set q.settings.redirect) (status_given at.given) (fields_given q.fields at.given)
              (served.view.state s).asked (served.view.state t).asked) was (at.gives.asks calls some few);
          bounded = λ each most. had at.given (AtMostUnlessKnown (calls_to_send each (is_set q.settings.redirect)) (is_well_known q.settings q.method q.path) (fields_given q.fields at.given)
              (served.view.state s).asked (served.view.state t).asked) was (at.gives.bounded each most);
          leads = at.gives.leads;
          life = at.gives.life;
          most = at.gives.most;
          loan = loan;
        };
        responds = responds_found q.fields at.given found r at.found says;
      }

  -- a body behind a reader is left behind it
  table_behind : (method : DavMethod) (o : Order) (b : BodyState) (given : GivenBy) (n : Brought) → ByTable served.view served.lists served.writes c method o (behind b) s given t n
      → (k : BodyState) × (n ≡ behind k)
  table_behind Put o b given n x = (x.0, x.1)
  table_behind MkCol o b given n x = (b, x.1)
  table_behind MkCalendar o b given n x = (b, x.1)
  table_behind MkAddressbook o b given n x = (b, x.1)
  table_behind Delete o b given n x = (b, x.1)
  table_behind Copy o b given n x = (b, x.1)
  table_behind Move o b given n x = (b, x.1)
  table_behind other o b given n x = absurd x

  -- a method that writes
  pub writes_over : (o : Order) (b : BodyState) (n : Brought) → FindsWritten served o c (behind b) s (Ok found) t n → served.view.loan t ≡ served.view.loan s → Says found r
      → (k : BodyState) × (n ≡ behind k) × WritesOver served.view served.lists served.writes c o b s r t k
  writes_over o b n w loan says =
      let left = table_behind o.method o b w.given n w.table in (
        left.0,
        left.1,
        record {
          given = w.given;
          table = subst (ByTable served.view served.lists served.writes c o.method o (behind b) s w.given t) left.1 w.table;
          tells = tells_found o.fields w.given found r w.found says;
          keeps = w.keeps;
          loan = loan;
        },
      )

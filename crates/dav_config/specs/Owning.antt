-- What a handler answers over its own store, or without one, by what a request finds.
use Rattle.std.specs.Prelude.{◌≡◌, Option, None, Some, true, false}
use Rattle.dav_model.specs.declared.target.Target.{Target}
use Rattle.dav_model.specs.declared.target.Target.TheVariants.{Methods, Refused}
use Rattle.dav_model.specs.Allowing.{allowing}
use Rattle.dav_model.specs.Head.{refusal}
use Rattle.dav_store.specs.declared.body_reader.BodyReader.{Ghosts as ReaderGhosts}
use Rattle.dav_config.specs.Finding.{AnswersBy, IsGated, Sought, StarvesBy}
use Rattle.dav_config.specs.Writing.{Brought, behind}
use Rattle.dav_config.specs.Handling.{Asking, Served}
use Rattle.dav_config.specs.Responses.{IsBare, Responded}

-- what is asked of the store: its moment is set behind the gates
abbrev pub sought_of : {C : Type 0} → Asking C → Sought C
sought_of asking = record {
  settings = asking.settings;
  head = asking.head;
  credentials = asking.credentials;
  now = Some asking.now;
}

-- ---- without a store

-- A refusal of the gates, or what OPTIONS is told: nothing else passes.
abbrev pub SaysAlone : {C F : Type 0} → Target → Sought C → Responded F → Type 0
SaysAlone (Refused status close) sought r = IsBare (refusal sought.head.headers status close) r
SaysAlone Methods sought r = IsBare (allowing sought.settings.allow true) r
SaysAlone other sought r = ⊥

pub record AnswersAlone {C F : Type 0} (sought : Sought C) (b : Brought) (r : Responded F) (n : Brought) : Type 0 where
  pub target : Target
  pub gated : IsGated sought false b target n
  pub says : SaysAlone target sought r

-- ---- with or without one

module _ {S C F L E : Type 0} (served : Served S C F L E) where
  -- A request was answered; a store stays on its loan.
  abbrev pub AnswersOver : Sought C → Brought → Option S → Responded F → Option S → Brought → Type 0
  AnswersOver sought b None r None n = AnswersAlone sought b r n
  AnswersOver sought b None r (Some t) n = ⊥
  AnswersOver sought b (Some s) r None n = ⊥
  AnswersOver sought b (Some s) r (Some t) n =
      AnswersBy served sought b s r t n × (served.view.loan t ≡ served.view.loan s)

  -- Memory was refused.
  abbrev pub StarvesOver : Sought C → Brought → Option S → Option S → Brought → Type 0
  StarvesOver sought b None None n = Unit {0}
  StarvesOver sought b None (Some t) n = ⊥
  StarvesOver sought b (Some s) None n = ⊥
  StarvesOver sought b (Some s) (Some t) n =
      StarvesBy served sought b s t n × (served.view.loan t ≡ served.view.loan s)

  -- The reader was consumed with the request, and memory was refused: what was made before stays, as the table of the
  -- method says. What is behind the reader is left as by a reader that stands on the same loan.
  abbrev pub StarvesAll : {B : Type 0} → ReaderGhosts B → Asking C → Option S → B → Option S → Type 0
  StarvesAll {B} reader asking old body new = (after : B) × (reader.loan after ≡ reader.loan body)
      × StarvesOver (sought_of asking) (behind (reader.state body)) old new (behind (reader.state after))

-- From what a call of the player did to the clause of its step.
use Rattle.std.proofs.Common.{◌≡◌, ◌+◌, ℕ, List, [], Option, None, Some, Result, Ok, Err, refl, sym, ap, subst, ◌∙◌, arith}
use Rattle.http.specs.Request.{body_of}
use Rattle.dav_io.specs.Counts.{Rose}
use Rattle.std.specs.Prelude.{true, is_some}
use Rattle.dav_io.specs.Told.{Both}
use Rattle.dav_io.proofs.ToldLemmas.{both_map}
use Rattle.dav_memory.specs.Memory.{LearnsNothing, MemoryState}
use Rattle.dav_io.specs.declared.clock.Moment.{Moment}
use Rattle.dav_io.specs.declared.failure.NoMemory.{NoMemory}
use Rattle.dav_core.specs.World.{World, put}
use Rattle.dav_core.specs.Changes.{turned}
use Rattle.dav_core.specs.Disk.{DiskState, Turns, TurnedIn}
use Rattle.dav_core.specs.Unchanged.{Keeps, KeepsBut, SameBesidesOpens}
use Rattle.dav_core.proofs.HeldStays.{held_besides}
use Rattle.dav_core.proofs.UnchangedLemmas.{keeps_same, same_besides}
use Rattle.dav_model.specs.declared.step.Step.TheVariants.{Request, Poll, Abandon, Purge, Turn}
use Rattle.dav_model.specs.declared.answer.Answer.TheVariants.{Reply as Replied, End, Done}
use Rattle.dav_model.specs.Conditions.{Asked, Fields, fields_of}
use Rattle.dav_model.specs.Bodies.{Polls, read_size_of}
use Rattle.dav_io.specs.declared.fields.Field.{Field}
use Rattle.dav_model.specs.Calls.{AsksAtGate, AsksToPoll, AsksToReply}
use Rattle.dav_model.specs.declared.target.Target.{Target}
use Rattle.dav_model.specs.declared.target.Target.TheVariants.{At, Methods, Refused, Writes}
use Rattle.dav_model.specs.Play.{Gets, Lets, Quiet, Stage, Stepped, TellsWorld, has_slice}
use Rattle.dav_model.specs.Rules.{Forgets}
use Rattle.dav_model.specs.Trail.{Goes, target_of}
use Rattle.dav_model.proofs.JoiningLemmas.{learns_same, makes_kept}
use Rattle.dav_local.specs.declared.file.LocalFsFile.{LocalFsFile}
use Rattle.dav_local.specs.Shown.{knowledge_of}
use Rattle.dav_get.specs.declared.open_at.OpenAt.{OpenAt}
use Rattle.dav_store.specs.Frames.{KeepsOpen}
use Rattle.dav_walks.proofs.calls.KeptOpen.{open_kept}
use Rattle.dav_get.specs.Bodies.{Closes}
use Rattle.dav_get.specs.Lives.{OpensOnly}
use Rattle.dav_handler.specs.Found.{Answers, Found, HoldsOnly, Starves, Stays, reply_of, said_in}
use Rattle.dav_handler.specs.By.{By, Over}
use Rattle.dav_handler.specs.Held.{Body, ClosesBody, IsPlaying, handle_of, held_by, held_in, left_in, parts_in}
use Rattle.dav_handler.specs.Player.{playing_by}
use Rattle.dav_handler.proofs.Frames.{body_needs, body_over}
use Rattle.dav_handler.proofs.Handles.{ends_lets, holds_takes, keeps_live}
use Rattle.dav_handler.proofs.Upkeep.{closes_others, gone_leave, held_none, held_put, held_undone, holds_every, left_all, left_none, left_put, playing_closed, playing_kept, tells_open, turn_every}
use Rattle.dav_handler.proofs.Polling.{stay_world}

-- a player, by what it answers by and what it keeps
abbrev pub staged : By → DiskState → ℕ → (ℕ → Option Body) → Stage
staged by s replies at = record { at = s; playing = playing_by by replies (left_in s at) (held_in at) }

open_goes : (s t : DiskState) → KeepsOpen s t → Goes s t
open_goes s t keeps = record { faults = keeps.counts; asked = keeps.asked; whole = keeps.whole; listers = keeps.listers }

keeps_goes : (s t : DiskState) → Keeps s t → Goes s t
keeps_goes s t keeps = record { faults = keeps.counts; asked = keeps.asked; whole = keeps.whole; listers = keeps.listers }

but_goes : (own : ℕ) (s t : DiskState) → KeepsBut own s t → Goes s t
but_goes own s t keeps = record { faults = keeps.counts; asked = keeps.asked; whole = keeps.whole; listers = keeps.listers }

opens_goes : (s t : DiskState) (file : Option (OpenAt LocalFsFile)) → OpensOnly handle_of s file t → Goes s t
opens_goes s t None keeps = keeps_goes s t keeps
opens_goes s t (Some h) opens = but_goes (handle_of h.file) s t opens.0

goes_only : (most : ℕ) (s t : DiskState) (body : Option Body) → HoldsOnly most s body t → Goes s t
goes_only most s t None keeps = open_goes s t keeps
goes_only most s t (Some b) holds = opens_goes s t b.file holds.0

body_gets : (most : ℕ) (s t : DiskState) (body : Option Body) → HoldsOnly most s body t → (has_slice (parts_in t body) ≡ true → is_some (held_by body) ≡ true) × (parts_in t body ≡ [] → held_by body ≡ None)
body_gets most s t None holds = (λ e. cc, λ e. refl)
body_gets most s t (Some b) holds = (body_needs t b holds.1.held, body_over t b holds.1.held)

-- What the body of a reply has left, and holds, and what the memory knows then.
abbrev gets_found : (o p : Over) (body : Option Body) (replies : ℕ) (at new : ℕ → Option Body) → Stays o p → left_in p.disk new ≡ put replies (parts_in p.disk body) (left_in o.disk at)
    → held_in new ≡ put replies (held_by body) (held_in at) → HoldsOnly (read_size_of o.by.rules.settings.read_buf_size) o.disk body p.disk
    → Gets replies (parts_in p.disk body) (record (playing_by o.by (replies + 1) (left_in o.disk at) (held_in at)) { knows = p.by.knows }) (playing_by p.by (replies + 1) (left_in p.disk new) (held_in new))
gets_found o p body replies at new stays left held holds =
    let (needs, over) = body_gets (read_size_of o.by.rules.settings.read_buf_size) o.disk p.disk body holds in
    record {
      file = held_by body;
      is = λ i. record { rules = stays.rules i; replies = replies + 1; left = left i; held = held i; knows = p.by.knows };
      needs = needs;
      over = over;
    }

-- a reply
pub replied : (o p : Over) (request : Asked) (now : Moment) (found : Found) (replies : ℕ) (at new : ℕ → Option Body)
    → Answers o (said_in request) (target_of o.by.rules request) found p → left_in p.disk new ≡ put replies (parts_in p.disk found.body) (left_in o.disk at)
    → held_in new ≡ put replies (held_by found.body) (held_in at) → TellsWorld p.disk → IsPlaying (read_size_of o.by.rules.settings.read_buf_size) p.disk new (replies + 1)
    → Stepped (staged o.by o.disk replies at) (Request request now) (Ok (Replied found.outcome.status found.outcome.fields replies)) (staged p.by p.disk (replies + 1) new)
replied o p request now found replies at new answers is held world playing = (
  record {
    goes = goes_only (read_size_of o.by.rules.settings.read_buf_size) o.disk p.disk found.body answers.holds;
    reply = reply_of p.disk found;
    makes = answers.makes;
    is = refl;
    knows = p.by.knows;
    learns = answers.stays.learns;
    gets = gets_found o p found.body replies at new answers.stays is held answers.holds;
    live = holds_takes (read_size_of o.by.rules.settings.read_buf_size) o.disk p.disk found.body answers.holds;
    right = answers.right;
    asks = answers.asks;
  },
  tells_open (read_size_of o.by.rules.settings.read_buf_size) p.disk new p.by (replies + 1) (replies + 1) world playing,
)

-- what is left after an answer without a body
pub left_replied : (most : ℕ) (s t : DiskState) (at : ℕ → Option Body) (k replies : ℕ) (body : Option Body) → HoldsOnly most s body t → IsPlaying most s at replies → body ≡ None → at k ≡ None
    → left_in t at ≡ put k (parts_in t body) (left_in s at)
left_replied most s t at k replies body holds p e none =
    left_all s t at (holds_every most s t body at replies holds p) ∙ left_none s k at none ∙ ap (λ x. put k x (left_in s at)) (sym (ap (parts_in t) e))

-- and after one with a body
pub left_joined : (most : ℕ) (s t : DiskState) (at new : ℕ → Option Body) (k replies : ℕ) (body : Option Body) (o : Body) → HoldsOnly most s body t → IsPlaying most s at replies → body ≡ Some o
    → new ≡ put k (Some o) at → left_in t new ≡ put k (parts_in t body) (left_in s at)
left_joined most s t at new k replies body o holds p e is =
    ap (left_in t) is ∙ left_put s t at k (Some o) (λ n b ne there. holds_every most s t body at replies holds p n b there) ∙ ap (λ x. put k x (left_in s at)) (sym (ap (parts_in t) e))

-- what is held after an answer without a body, and after one with a body
pub held_replied : (at : ℕ → Option Body) (k : ℕ) (body : Option Body) → body ≡ None → at k ≡ None → held_in at ≡ put k (held_by body) (held_in at)
held_replied at k body e none = held_none k at none ∙ ap (λ x. put k x (held_in at)) (sym (ap held_by e))

pub held_joined : (at new : ℕ → Option Body) (k : ℕ) (body : Option Body) (o : Body) → body ≡ Some o → new ≡ put k (Some o) at → held_in new ≡ put k (held_by body) (held_in at)
held_joined at new k body o e is = ap held_in is ∙ held_put at k (Some o) ∙ ap (λ x. put k x (held_in at)) (sym (ap held_by e))

-- a request that was refused memory
pub refused : (o p : Over) (request : Asked) (now : Moment) (replies : ℕ) (at : ℕ → Option Body) (e : NoMemory) → Starves o (said_in request) (target_of o.by.rules request) p
    → TellsWorld p.disk → IsPlaying (read_size_of o.by.rules.settings.read_buf_size) o.disk at replies
    → Stepped (staged o.by o.disk replies at) (Request request now) (Err e) (staged p.by p.disk replies at)
refused o p request now replies at e starves world playing = record {
  goes = open_goes o.disk p.disk starves.keeps;
  makes = starves.makes;
  knows = p.by.knows;
  learns = starves.stays.learns;
  live = keeps_live o.disk p.disk starves.keeps;
  is = λ i. record {
    rules = starves.stays.rules i;
    replies = replies;
    left = left_all o.disk p.disk at (holds_every (read_size_of o.by.rules.settings.read_buf_size) o.disk p.disk None at replies starves.keeps playing) i;
    held = held_in at;
    knows = p.by.knows;
  };
  held = tells_open (read_size_of o.by.rules.settings.read_buf_size) p.disk at p.by replies replies world
      (playing_kept (read_size_of o.by.rules.settings.read_buf_size) o.disk p.disk at replies starves.keeps playing);
  asks = starves.asks;
}

-- closing a body meets no fault and asks nothing
closed_quiet : (s t : DiskState) (o : Option Body) → ClosesBody o s t → Quiet Done s t
closed_quiet s t None e = rw e (record { goes = keeps_goes s s (keeps_same s); is = refl; faults = refl; asked = refl })
closed_quiet s t (Some b) c = closed_file b.file c
  where
    closed_file : (file : Option (OpenAt LocalFsFile)) → Closes handle_of s file t → Quiet Done s t
    closed_file None e = rw e (record { goes = keeps_goes s s (keeps_same s); is = refl; faults = refl; asked = refl })
    closed_file (Some h) closes = record { goes = but_goes (handle_of h.file) s t closes.keeps; is = refl; faults = closes.counts; asked = closes.asked }

closed_world : (s t : DiskState) (o : Option Body) → ClosesBody o s t → Both s.told t.told SameBesidesOpens
closed_world s t None e = subst (λ x. Both s.told x.told SameBesidesOpens) (sym e) (keeps_same s).world
closed_world s t (Some b) c = stay_world s t b.file (closes_others s t b.file c)

-- a body was abandoned
pub abandoned : (by : By) (s t : DiskState) (at new : ℕ → Option Body) (replies body : ℕ) → TellsWorld t → IsPlaying (read_size_of by.rules.settings.read_buf_size) s at replies → ClosesBody (at body) s t → new ≡ put body None at
    → Stepped (staged by s replies at) (Abandon body) (Ok Done) (staged by t replies new)
abandoned by s t at new replies body world p closes is = (
  (
    closed_quiet s t (at body) closes,
    closed_world s t (at body) closes,
    ends_lets s t (at body) closes,
    record {
      file = None;
      is = λ i. playing_by by replies ((ap (left_in t) is ∙ left_put s t at body None (gone_leave (read_size_of by.rules.settings.read_buf_size) s t at replies body (at body) p refl closes)) i) ((ap held_in is ∙ held_put at body None) i);
      needs = λ e. cc;
      over = λ e. refl;
    },
  ),
  tells_open (read_size_of by.rules.settings.read_buf_size) t new by replies replies world (playing_closed (read_size_of by.rules.settings.read_buf_size) s t at new replies body p closes is),
)

-- an ended body was polled
pub polled_end : (by : By) (s : DiskState) (at : ℕ → Option Body) (replies body : ℕ) → TellsWorld s → IsPlaying (read_size_of by.rules.settings.read_buf_size) s at replies → at body ≡ None
    → Stepped (staged by s replies at) (Poll body) (Ok End) (staged by s replies at)
polled_end by s at replies body world p none = (
  record {
    goes = keeps_goes s s (keeps_same s);
    leaves = (keeps_same s).world;
    rest = [];
    gives = subst (λ x. Polls s.told s.whole (read_size_of by.rules.settings.read_buf_size) (Rose s.faults s.faults) (parts_in s x) End []) (sym none) (refl, refl);
    gets = record {
      file = None;
      is = λ i. playing_by by replies (left_none s body at none i) (held_none body at none i);
      needs = λ e. cc;
      over = λ e. refl;
    };
    live = subst (λ x. Lets (held_by x) None s.live s.live) (sym none) (refl, refl);
    asks = subst (λ x. AsksToPoll s.told (held_by x) (parts_in s x) End s.asked s.asked) (sym none) refl;
  },
  tells_open (read_size_of by.rules.settings.read_buf_size) s at by replies replies world p,
)

same_world : {E : Type 0} (x : E) (v w : World) → TurnedIn (Err x) v w → SameBesidesOpens v w
same_world x v w e = rw e (same_besides v)

turns_goes : {E : Type 0} (s t : DiskState) (result : Result Unit E) → Turns s result t → Goes s t
turns_goes s t result turns = record { faults = rw turns.counts (omega arith); asked = rw turns.asked (omega arith); whole = turns.whole; listers = turns.listers }

-- a turn of the outside
pub turned_steps : (by : By) (s t : DiskState) (at : ℕ → Option Body) (replies : ℕ) → TellsWorld t → IsPlaying (read_size_of by.rules.settings.read_buf_size) t at replies → Turns {E = NoMemory} s (Ok tt) t
    → Stepped (staged by s replies at) Turn (Ok Done) (staged by t replies at)
turned_steps by s t at replies world p turns = (
  (
    record { goes = turns_goes s t (Ok tt) turns; is = refl; faults = turns.counts; asked = turns.asked },
    both_map s.told t.told (TurnedIn {E = NoMemory} (Ok tt)) (λ v w. SameBesidesOpens (turned v) w) (λ v w same. held_besides (turned v) w same) turns.told,
    turns.live,
    ap (λ left. playing_by by replies left (held_in at)) (left_all s t at (turn_every s t (Ok tt) at turns)),
  ),
  tells_open (read_size_of by.rules.settings.read_buf_size) t at by replies replies world p,
)

pub turn_refused : (by : By) (s t : DiskState) (at : ℕ → Option Body) (replies : ℕ) (e : NoMemory) → TellsWorld t → IsPlaying (read_size_of by.rules.settings.read_buf_size) t at replies → Turns s (Err e) t
    → Stepped (staged by s replies at) Turn (Err e) (staged by t replies at)
turn_refused by s t at replies e world p turns = record {
  goes = turns_goes s t (Err e) turns;
  makes = λ x. (both_map s.told t.told (TurnedIn {E = NoMemory} (Err e)) SameBesidesOpens (same_world e) turns.told, turns.counts);
  knows = by.knows;
  learns = learns_same s.told by.knows by.knows refl;
  live = turns.live;
  is = ap (λ left. playing_by by replies left (held_in at)) (left_all s t at (turn_every s t (Err e) at turns));
  held = tells_open (read_size_of by.rules.settings.read_buf_size) t at by replies replies world p;
  asks = turns.asked;
}

closed_asks : (m t : DiskState) (file : Option (OpenAt LocalFsFile)) → Closes handle_of m file t → t.asked ≡ m.asked
closed_asks m t None e = ap (λ (x : DiskState). x.asked) e
closed_asks m t (Some h) closes = closes.asked

-- the body of an answer was closed again
undone_asks : (by : By) (target : Target) (status : ℕ) (fields : List Field) (asked : Fields) (s m t : DiskState) (c : Body) → AsksToReply target by.rules by.knows asked status fields s m
    → Closes handle_of m c.file t → AsksAtGate target s.asked t.asked
undone_asks by (At method path) status fields asked s m t c asks closes = tt
undone_asks by (Writes method path) status fields asked s m t c asks closes = tt
undone_asks by Methods status fields asked s m t c asks closes = closed_asks m t c.file closes ∙ asks
undone_asks by (Refused gate close) status fields asked s m t c asks closes = closed_asks m t c.file closes ∙ asks

-- There was no room for the body of an answer, and its file was closed again.
pub undone_steps : (o p : Over) (t : DiskState) (request : Asked) (now : Moment) (found : Found) (replies : ℕ) (at new : ℕ → Option Body) (b c : Body) (e : NoMemory)
    → TellsWorld t → IsPlaying (read_size_of o.by.rules.settings.read_buf_size) o.disk at replies → Answers o (said_in request) (target_of o.by.rules request) found p → found.body ≡ Some b → c ≡ b
    → Closes handle_of p.disk c.file t → new ≡ at
    → Stepped (staged o.by o.disk replies at) (Request request now) (Err e) (staged p.by t replies new)
undone_steps o p t request now found replies at new b c e world playing answers is same closes unchanged =
    let keeps = held_undone (read_size_of o.by.rules.settings.read_buf_size) o.disk p.disk t found.body b c answers.holds is same closes in
    subst (λ z. Stepped (staged o.by o.disk replies at) (Request request now) (Err e) (staged p.by t replies z)) (sym unchanged)
    (refused o (record p { disk = t }) request now replies at e (record {
      stays = record { rules = answers.stays.rules; learns = answers.stays.learns };
      keeps = open_kept o.disk t keeps;
      makes = λ x. makes_kept (target_of o.by.rules request) o.by.rules o.by.knows (fields_of request) (body_of request) x o.disk t keeps.world;
      asks = undone_asks o.by (target_of o.by.rules request) found.outcome.status found.outcome.fields (fields_of request) o.disk p.disk t c answers.asks closes;
    }) world playing)

-- What a memory knows that learned nothing was known before.
forgets_of : (m n : MemoryState) → LearnsNothing m n → Forgets (knowledge_of m) (knowledge_of n)
forgets_of m n learns = record {
  open_same = learns.same_open;
  known = λ dir time has is. (let (had, was, alike) = learns.known dir time has is in (had, was, λ x dot. alike x));
}

-- A purge leaves the disk as it was, and the memory forgets.
pub purged : (by : By) (s : DiskState) (now : Moment) (m n : MemoryState) (replies : ℕ) (at : ℕ → Option Body) → TellsWorld s → IsPlaying (read_size_of by.rules.settings.read_buf_size) s at replies → by.knows ≡ knowledge_of m
    → LearnsNothing m n → Stepped (staged by s replies at) (Purge now) (Ok Done) (staged (record by { knows = knowledge_of n }) s replies at)
purged by s now m n replies at world p same learns = (
  (refl, refl, (knowledge_of n, refl, subst (λ k. Forgets k (knowledge_of n)) (sym same) (forgets_of m n learns))),
  tells_open (read_size_of by.rules.settings.read_buf_size) s at (record by { knows = knowledge_of n }) replies replies world p,
)

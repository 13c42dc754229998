-- What the answers to a list of steps are, along a trail.
use Rattle.std.specs.Prelude.{◌≡◌, ◌+◌, ◌⊎◌, ℕ, Bool, true, false, List, [], ◌∷◌, ◌++◌, is_some, Option, None, Some, Result, Ok, Err}
use Rattle.std.specs.List.{AllByRecursion, list_any}
use Rattle.http.specs.Request.{body_of}
use Rattle.dav_io.specs.Counts.{Rose}
use Rattle.dav_io.specs.Told.{Both}
use Rattle.dav_io.specs.declared.failure.NoMemory.{NoMemory}
use Rattle.dav_core.specs.declared.time.FileTime.{FileTime}
use Rattle.dav_core.specs.declared.tree.Kind.TheVariants.{Dir, File}
use Rattle.dav_core.specs.Changes.{turned}
use Rattle.dav_core.specs.Disk.{Live}
use Rattle.dav_core.specs.Writing.{reading}
use Rattle.dav_core.specs.Path.{Names}
use Rattle.dav_core.specs.Tree.{is_linked}
use Rattle.dav_core.specs.Unchanged.{SameBesidesOpens}
use Rattle.dav_core.specs.World.{IsWorld, World, put, number_of}
use Rattle.dav_model.specs.declared.step.Step.{Step}
use Rattle.dav_model.specs.declared.step.Step.TheVariants.{Request, Poll, Abandon, Purge, Turn}
use Rattle.dav_model.specs.declared.answer.Answer.{Answer}
use Rattle.dav_model.specs.declared.answer.Answer.TheVariants.{Reply as Replied, Done}
use Rattle.dav_model.specs.declared.target.Target.{Target}
use Rattle.dav_model.specs.declared.target.Target.TheVariants.{At, Methods, Refused, Writes}
use Rattle.dav_model.specs.Allowing.{allowing}
use Rattle.dav_model.specs.Bodies.{NoneEmpty, Part, text, slice, Polls, read_size_of}
use Rattle.dav_model.specs.Calls.{AsksAtGate, AsksToPoll, AsksToReply}
use Rattle.dav_model.specs.Conditions.{Fields, Asked, fields_of}
use Rattle.dav_model.specs.Due.{OfItsPaths, Query, course, listing, query, IsRight}
use Rattle.dav_model.specs.Finding.{MayShow, is_clear, resolved, shown_in}
use Rattle.dav_model.specs.Folds.{Name}
use Rattle.dav_model.specs.Head.{Reply, refusal}
use Rattle.dav_model.specs.Rules.{Rules, Knowledge, Learns, Forgets, WasKnown, ShowsNames}
use Rattle.dav_model.specs.Shown.{Shown, CouldShow}
use Rattle.dav_model.specs.Trail.{Point, Move, Goes, Leaves, target_of, last_of, steps_of, answers_of, points_of}
use Rattle.dav_model.specs.Valid.{Occurs, Valid}
use Rattle.dav_model.specs.Plans.{Ask}
use Rattle.dav_model.specs.Written.{IsWriteReply, Makes, MakesAs, ask_of}

-- A player as its answers show it.
pub record Playing : Type 0 where
  pub rules : Rules
  -- how many replies it gave
  pub replies : ℕ
  -- what each body has left. An unknown or ended body has nothing.
  pub left : ℕ → List Part
  -- the handle of the file that each body holds
  pub held : ℕ → Option ℕ
  -- what the memory of its store knows
  pub knows : Knowledge

-- ---- bodies and their files

abbrev pub is_slice : Part → Bool
is_slice (text bytes) = false
is_slice (slice number start count) = true

abbrev pub has_slice : List Part → Bool
has_slice parts = list_any is_slice parts

-- a live handle of a regular file that is read
abbrev pub read_file : Live
read_file = record { kind = File; how = reading }

-- A reply's body takes a new handle, or none; nothing else is opened or closed.
abbrev pub Takes : Option ℕ → (ℕ → Option Live) → (ℕ → Option Live) → Type 0
Takes None old new = new ≡ old
Takes (Some h) old new = (old h ≡ None) × (new ≡ put h (Some read_file) old)

-- A body that held a file holds it still, or closed it; no body takes another, and nothing else is opened or closed.
abbrev pub Lets : Option ℕ → Option ℕ → (ℕ → Option Live) → (ℕ → Option Live) → Type 0
Lets None after old new = (after ≡ None) × (new ≡ old)
Lets (Some h) None old new = new ≡ put h None old
Lets (Some h) (Some g) old new = (g ≡ h) × (new ≡ old)

abbrev pub with_body : ℕ → List Part → Option ℕ → Playing → Playing
with_body body parts file p = record p { left = put body parts p.left; held = put body file p.held }

-- A body has these parts left now. As long as a slice is left it holds a file, and none where nothing is left; where
-- only texts are left, as a last boundary, it may.
pub record Gets (body : ℕ) (parts : List Part) (p : Playing) (q : Playing) : Type 0 where
  pub file : Option ℕ
  pub is : q ≡ with_body body parts file p
  pub needs : has_slice parts ≡ true → is_some file ≡ true
  pub over : parts ≡ [] → file ≡ None

-- The file of each slice that a body has left is open under the handle that the body holds.
abbrev pub HasOpen : World → Option ℕ → Part → Type 0
HasOpen w file (text bytes) = Unit {0}
HasOpen w file (slice number start count) = (h : ℕ) × (file ≡ Some h) × (number_of w h ≡ Some number)

abbrev pub StaysOpen : Point → Playing → Type 0
StaysOpen t q = (w : World) → t.told ≡ Some w → (body : ℕ) → AllByRecursion (HasOpen w (q.held body)) (q.left body)

-- what is told at a point is a world
abbrev pub TellsWorld : Point → Type 0
TellsWorld t = (w : World) → t.told ≡ Some w → IsWorld w

-- What holds of a player at every point of a run: a world is told there, and the files of the bodies are open in it.
pub record TellsOpen (t : Point) (q : Playing) : Type 0 where
  pub world : TellsWorld t
  pub files : StaysOpen t q

-- no part that a body has left is empty
abbrev pub AreFull : Playing → Type 0
AreFull p = (body : ℕ) → NoneEmpty (p.left body)

-- ---- replies

-- A GET or HEAD. In every run the reply is right for something that the store could show, and over a told world for
-- what a loose walk finds there. (In a valid run, where no link is met, that is what the rules show: a law.)
pub record Reads (rules : Rules) (k : Knowledge) (s t : Point) (q : Query) (reply : Reply) : Type 0 where
  pub shown : Shown
  pub could : CouldShow shown
  pub may : MayShow rules k s.told shown
  pub right : IsRight q shown (Rose s.faults t.faults) reply

-- The reply to a request with these fields between two points, by what it asks for.
abbrev pub Replies : Target → Rules → Knowledge → Point → Point → Fields → Reply → Type 0
Replies (Refused status close) rules k s t fields reply = reply ≡ refusal fields status close
Replies Methods rules k s t fields reply = reply ≡ allowing rules.settings.allow false
Replies (Writes method path) rules k s t fields reply = IsWriteReply method rules.settings.prefix fields
    (Rose s.faults t.faults) reply
Replies (At method path) rules k s t fields reply = Reads rules k s t (query rules.settings fields method path) reply

-- ---- steps

pub record Answered (p : Playing) (s t : Point) (request : Asked) (answer : Answer) (q : Playing) : Type 0 where
  pub goes : Goes s t
  pub reply : Reply
  -- what it makes of the told world: nothing, unless it writes
  pub makes : Makes (target_of p.rules request) p.rules p.knows (fields_of request) (body_of request) (Ok reply) s t
  pub is : answer ≡ Replied reply.status reply.fields p.replies
  pub knows : Knowledge
  pub learns : Learns s.told p.knows knows
  pub gets : Gets p.replies reply.parts (record p { replies = p.replies + 1; knows = knows }) q
  pub live : Takes gets.file s.live t.live
  pub right : Replies (target_of p.rules request) p.rules p.knows s t (fields_of request) reply
  -- how many calls of the disk it asks
  pub asks : AsksToReply (target_of p.rules request) p.rules p.knows (fields_of request) reply.status reply.fields s t

pub record Polled (p : Playing) (s t : Point) (body : ℕ) (answer : Answer) (q : Playing) : Type 0 where
  pub goes : Goes s t
  pub leaves : Leaves s t
  pub rest : List Part
  pub gives : Polls s.told s.whole (read_size_of p.rules.settings.read_buf_size) (Rose s.faults t.faults)
      (p.left body) answer rest
  pub gets : Gets body rest p q
  pub live : Lets (p.held body) gets.file s.live t.live
  -- how many calls of the disk it asks
  pub asks : AsksToPoll s.told (p.held body) (p.left body) answer s.asked t.asked

-- A turn, and the end of a body, meet no fault and ask nothing.
pub record Quiet (answer : Answer) (s t : Point) : Type 0 where
  pub goes : Goes s t
  pub is : answer ≡ Done
  pub faults : t.faults ≡ s.faults
  pub asked : t.asked ≡ s.asked

-- the outside's changes
abbrev pub Turned : Point → Point → Type 0
Turned s t = Both s.told t.told (λ v w. SameBesidesOpens (turned v) w)

-- What a step is answered, what it makes of the disk, and what it leaves of the player.
abbrev pub Stands : Playing → Point → Point → Step → Answer → Playing → Type 0
Stands p s t (Request request now) answer q = Answered p s t request answer q
Stands p s t (Poll body) answer q = Polled p s t body answer q
Stands p s t (Abandon body) answer q = Quiet answer s t × Leaves s t × Lets (p.held body) None s.live t.live
    × Gets body [] p q
Stands p s t (Purge now) answer q = (answer ≡ Done) × (t ≡ s)
    × ((k : Knowledge) × (q ≡ record p { knows = k }) × Forgets p.knows k)
Stands p s t Turn answer q = Quiet answer s t × Turned s t × (t.live ≡ s.live) × (q ≡ p)

-- What a step asked that was refused memory: nothing where it is no request, as a poll's memory is taken before the
-- disk is asked.
abbrev pub AsksUnanswered : Rules → Step → ℕ → ℕ → Type 0
AsksUnanswered rules (Request request now) before after = AsksAtGate (target_of rules request) before after
AsksUnanswered rules (Poll body) before after = after ≡ before
AsksUnanswered rules (Abandon body) before after = after ≡ before
AsksUnanswered rules (Purge now) before after = after ≡ before
AsksUnanswered rules Turn before after = after ≡ before

-- What a step makes of the told world that was refused memory: nothing, unless it is a request that writes, which may
-- have been broken off on its way. A turn meets no fault.
abbrev pub MakesUnanswered : Rules → Knowledge → Step → NoMemory → Point → Point → Type 0
MakesUnanswered rules k (Request request now) e s t = Makes (target_of rules request) rules k (fields_of request)
    (body_of request) (Err e) s t
MakesUnanswered rules k (Poll body) e s t = Leaves s t
MakesUnanswered rules k (Abandon body) e s t = Leaves s t
MakesUnanswered rules k (Purge now) e s t = Leaves s t
MakesUnanswered rules k Turn e s t = Leaves s t × (t.faults ≡ s.faults)

-- A step that was refused memory: the player is as it was, but for what its memory knows, and nothing else is live.
pub record Refuses (p : Playing) (s t : Point) (step : Step) (q : Playing) : Type 0 where
  pub goes : Goes s t
  pub makes : (e : NoMemory) → MakesUnanswered p.rules p.knows step e s t
  pub live : t.live ≡ s.live
  pub knows : Knowledge
  pub learns : Learns s.told p.knows knows
  pub is : q ≡ record p { knows = knows }
  pub held : TellsOpen t q
  pub asks : AsksUnanswered p.rules step s.asked t.asked

-- ---- runs

-- The answers to the steps along a trail.
abbrev pub Plays : Playing → Point → List Move → Playing → Type 0
Plays p s [] q = q ≡ p
Plays p s (move ∷ moves) q = (m : Playing) × Stands p s move.to move.step move.answer m × TellsOpen move.to m
    × Plays m move.to moves q

-- a player over its disk at a moment
pub record Stage : Type 0 where
  pub at : Point
  pub playing : Playing

-- How a run ends after the steps that were answered: with none left, or at a step that was refused memory.
abbrev pub Ends : Result Unit NoMemory → List Step → Stage → Stage → Type 0
Ends (Ok x) [] m b = b ≡ m
Ends (Err e) (step ∷ steps) m b = Refuses m.playing m.at b.at step b.playing
Ends result rest m b = ⊥

-- The answers that were added stand to this trail, from entry to exit.
pub record Played (trail : List Move) (a : Stage) (steps : List Step) (old new : List Answer)
    (result : Result Unit NoMemory) (b : Stage) : Type 0 where
  pub rest : List Step
  pub player : Playing
  pub steps_are : steps ≡ steps_of trail ++ rest
  pub answers_are : new ≡ old ++ answers_of trail
  pub held : TellsOpen a.at a.playing
  pub full : AreFull a.playing
  pub answered : Plays a.playing a.at trail player
  pub ends : Ends result rest (record { at = last_of a.at trail; playing = player }) b

-- One step by itself.
abbrev pub Stepped : Stage → Step → Result Answer NoMemory → Stage → Type 0
Stepped a step (Ok answer) b = Stands a.playing a.at b.at step answer b.playing × TellsOpen b.at b.playing
Stepped a step (Err e) b = Refuses a.playing a.at b.at step b.playing

-- What is known at exit was known at entry, or a world of the trail shows it. It is the same trail in both.
pub record Learned (points : List Point) (k l : Knowledge) : Type 0 where
  pub open_same : (dir : Names) (time : FileTime) → l.is_open dir time ≡ k.is_open dir time
  pub known : (dir : Names) (time : FileTime) (has : Name → Bool) → l.names dir time ≡ Some has
      → WasKnown k dir time has ⊎ ((w : World) × Occurs w points × ShowsNames w dir time has)

-- ---- the headline

-- No link is met on the way to the path or at it, nor to the index file where one may stand for it. Where the directory
-- at the path may be listed, none stands in it.
pub record MeetsNoLink (rules : Rules) (w : World) (q : Query) : Type 0 where
  pub paths : OfItsPaths q (λ path. is_linked w.tree (resolved rules w.tree path.names) ≡ false)
  pub members : course q Dir ≡ listing → is_clear w.tree (resolved rules w.tree q.path.names) ≡ true

-- The reply to a GET or HEAD is the one right answer for what the tree has where the rules find the path, as if there
-- were no memory; or what may stand in its place where the count of faults rose.
abbrev pub IsOfTree : Rules → Point → Point → Query → Reply → Type 0
IsOfTree rules s t q reply = (w : World) → s.told ≡ Some w → MeetsNoLink rules w q
    → IsRight q (shown_in rules w) (Rose s.faults t.faults) reply

-- The reply to a request that writes, and what it makes of the tree, are what its plan says.
abbrev pub MakesOfTree : Rules → Point → Point → Ask → Reply → Type 0
MakesOfTree rules s t ask reply = Both s.told t.told (MakesAs ask.method rules ask (Ok reply)
    (Rose s.faults t.faults))

abbrev pub RepliesByTree : Target → Rules → Point → Point → Fields → List ℕ → Reply → Type 0
RepliesByTree (Refused status close) rules s t fields body reply = reply ≡ refusal fields status close
RepliesByTree Methods rules s t fields body reply = reply ≡ allowing rules.settings.allow false
RepliesByTree (Writes method path) rules s t fields body reply = IsWriteReply method rules.settings.prefix fields
    (Rose s.faults t.faults) reply
    × MakesOfTree rules s t (ask_of method path fields body) reply
RepliesByTree (At method path) rules s t fields body reply = IsOfTree rules s t
    (query rules.settings fields method path) reply

-- The same of a step that was answered, if it is a request.
abbrev pub StepByTree : (p : Playing) (s t : Point) (step : Step) (answer : Answer) (q : Playing)
    → Stands p s t step answer q → Type 0
StepByTree p s t (Request request now) answer q st = RepliesByTree (target_of p.rules request) p.rules s t
    (fields_of request) (body_of request) st.reply
StepByTree p s t (Poll body) answer q st = Unit {0}
StepByTree p s t (Abandon body) answer q st = Unit {0}
StepByTree p s t (Purge now) answer q st = Unit {0}
StepByTree p s t Turn answer q st = Unit {0}

-- Each reply along a trail is that of the tree before its step.
abbrev pub EachByTree : (p : Playing) (s : Point) (moves : List Move) (q : Playing) → Plays p s moves q → Type 0
EachByTree p s [] q plays = Unit {0}
EachByTree p s (move ∷ moves) q (m, st, held, plays) = StepByTree p s move.to move.step move.answer m st
    × EachByTree m move.to moves q plays

-- All points of a run, its first among them.
abbrev pub points_from : Stage → List Move → List Point
points_from a trail = a.at ∷ points_of trail

-- The clause of `play`: one trail, of which all of it speaks. In a valid run each reply is that of the tree before its
-- step.
pub record PlayedOn (a : Stage) (steps : List Step) (old new : List Answer) (result : Result Unit NoMemory) (b : Stage)
    : Type 0 where
  pub trail : List Move
  pub played : Played trail a steps old new result b
  pub headline : Valid a.playing.rules a.playing.knows (points_from a trail)
      → EachByTree a.playing a.at trail played.player played.answered

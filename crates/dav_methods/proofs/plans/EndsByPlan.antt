-- A request that writes, over a store that follows its rules, from call to call: what is known of the world before it, and how
-- each line and each call of a table ends it as its plan says.
-- Headlines: `seen_stage`, `look_stage` and `right_in`.
use Rattle.std.proofs.Common.{◌≡◌, ◌≤◌, ◌||◌, ◌⊎◌, inl, inr, ℕ, Bool, true, false, List, [], ◌∷◌, Option, None, Some, Result, Ok, Err, refl, sym, ap, subst, ◌∙◌}
use Rattle.dav_io.specs.Counts.{Rose}
use Rattle.dav_io.specs.Told.{Both}
use Rattle.dav_io.specs.declared.failure.NoMemory.{NoMemory as Wanting}
use Rattle.dav_io.proofs.AppendingLemmas.{rose_before}
use Rattle.dav_io.proofs.ToldLemmas.{both_known, both_map, both_same, both_then}
use Rattle.dav_core.specs.declared.dav_error.DavError.{DavError}
use Rattle.dav_core.specs.declared.dav_error.DavError.TheVariants as dav
use Rattle.dav_core.specs.declared.error.FsError.{FsError}
use Rattle.dav_core.specs.declared.error.FsError.TheVariants as fs
use Rattle.dav_core.specs.declared.method.DavMethod.{DavMethod}
use Rattle.dav_core.specs.declared.method.DavMethod.TheVariants as method
use Rattle.dav_core.specs.declared.tree.Row.{Row}
use Rattle.dav_core.specs.DavPath.{WebPath}
use Rattle.dav_core.specs.Info.{Info}
use Rattle.dav_core.specs.Path.{Names}
use Rattle.dav_core.specs.Statuses.{closes, of_fs, status_of}
use Rattle.dav_core.specs.Tree.{is_linked, look}
use Rattle.dav_core.specs.World.{IsWorld, SameBesidesOpens, World}
use Rattle.dav_core.proofs.UnchangedLemmas.{same_besides, same_besides_then}
use Rattle.dav_store.specs.Files.{Spoiled}
use Rattle.dav_store.specs.View.{Listings, View}
use Rattle.dav_model.specs.declared.outcome.Outcome.{Outcome}
use Rattle.dav_model.specs.Conditions.{Fields}
use Rattle.dav_model.specs.Finding.{resolved}
use Rattle.dav_model.specs.Head.{Reply, refusal}
use Rattle.dav_model.specs.Plans.{Act, Ask, Halt, Plan, first, halts, line, meets_link, plan, stands, unless}
use Rattle.dav_model.specs.Rules.{Knowledge, Rules}
use Rattle.dav_model.specs.Valid.{IsRegular}
use Rattle.dav_model.specs.Written.{ByActs, EndsAs, PartOf, done_reply}
use Rattle.dav_model.proofs.JoiningLemmas.{part_none}
use Rattle.dav_model.specs.Due.{failure}
use Rattle.dav_walks.specs.Follows.{Finds, Follows, LooksBy, Reached, Told, here, looks}
use Rattle.dav_methods.specs.ByPlan.{RightIn, answer_or}
use Rattle.dav_walks.specs.Lines.{Line}
use Rattle.dav_methods.specs.Lines.{Given}
use Rattle.dav_walks.specs.Pouring.{Writes}
use Rattle.dav_methods.specs.Lines as the
use Rattle.dav_methods.specs.Table.{Ends, Looks, Next, Run, Unless}
use Rattle.dav_walks.proofs.calls.ActsJoined.{Comes, Halted, done_acts, halted_acts}
use Rattle.dav_walks.proofs.trees.StandsAsBefore.{regular_same, stands_same}

-- ---- links

or_parts : (a b : Bool) → (a || b) ≡ false → a ≡ false
or_parts true b e = cc
or_parts false b e = refl

-- A request that meets no link meets none on the way to its path.
pub unlinked : (m : DavMethod) (tree : List Row) (path : Names) → meets_link m tree path ≡ false → is_linked tree path ≡ false
unlinked method.Head tree path e = e
unlinked method.Get tree path e = e
unlinked method.Put tree path e = e
unlinked method.Patch tree path e = e
unlinked method.Options tree path e = e
unlinked method.PropFind tree path e = e
unlinked method.PropPatch tree path e = e
unlinked method.MkCol tree path e = e
unlinked method.Copy tree path e = e
unlinked method.Move tree path e = e
unlinked method.Delete tree path e = or_parts (is_linked tree path) _ e
unlinked method.Lock tree path e = e
unlinked method.Unlock tree path e = e
unlinked method.Report tree path e = e
unlinked method.MkCalendar tree path e = e
unlinked method.MkAddressbook tree path e = e

-- ---- lines

-- a line of a table and the line of a plan
abbrev pub Matches : Line → Option Halt → Type 0
Matches (Ok x) None = Unit {0}
Matches (Ok x) (Some l) = ⊥
Matches (Err d) None = ⊥
Matches (Err d) (Some l) = (status_of d ≡ l.status) × (closes d ≡ l.close)

-- ---- how a request ends

abbrev halted : Halt → Fields → Reply
halted l fields = refusal fields l.status l.close

refusal_same : (fields : Fields) (a b : ℕ) (x y : Bool) → a ≡ b → x ≡ y → refusal fields a x ≡ refusal fields b y
refusal_same fields a b x y e f = ap (λ n. refusal fields n x) e ∙ ap (refusal fields b) f

-- The plan of a request by its method alone, and whether it meets a link.
abbrev pub planned : Rules → Ask → World → Plan
planned rules ask v = plan rules v ask

abbrev pub linked : Rules → Ask → World → Bool
linked rules ask v = meets_link ask.method v.tree (resolved rules v.tree ask.path.names)

module _ {S C F L E : Type 0} (view : View S C F) (lists : Listings S C L E) (writes : Writes F) (c : C) (plans : Rules → Ask → World → Plan) (meets : Rules → Ask → World → Bool) where
  -- a request to a store that follows the rules of a plain one
  pub record Case : Type 0 where
    pub rules : Rules
    pub knows : Knowledge
    pub ask : Ask
    pub s : S
    pub follows : Follows view lists writes c rules knows s

  abbrev pub plan_of : Case → World → Plan
  plan_of x v = plans x.rules x.ask v

  -- It meets no link.
  pub record Clear (x : Case) (v : World) : Type 0 where
    pub world : IsWorld v
    pub regular : IsRegular x.rules x.knows v
    pub links : meets x.rules x.ask v ≡ false

  abbrev pub EndsFor : Case → Given → S → World → World → Type 0
  EndsFor x r t v w = (result : Result Reply Wanting) → answer_or x.ask.fields r result
      → EndsAs x.ask.fields (plan_of x v) result (Rose (view.state x.s).faults (view.state t).faults) v w

  -- The request ended as its plan says.
  abbrev pub Right : Case → Given → S → Type 0
  Right x r t = Both (view.state x.s).told (view.state t).told (λ v w. Clear x v → EndsFor x r t v w)

  -- Nothing changed up to a store, and this is known of the world before the request.
  abbrev pub At : Case → S → (World → Type 0) → Type 0
  At x m P = Both (view.state x.s).told (view.state m).told (λ v u. SameBesidesOpens v u × (Clear x v → P v))

  pub at_first : (x : Case) (P : World → Type 0) → ((v : World) → P v) → At x x.s P
  at_first x P known = both_same (view.state x.s).told (view.state x.s).told (λ v u. SameBesidesOpens v u × (Clear x v → P v)) (λ v. (same_besides v, λ clear. known v)) refl

  pub at_map : (x : Case) (m : S) (P Q : World → Type 0) → ((v : World) → Clear x v → P v → Q v) → At x m P → At x m Q
  at_map x m P Q more at = both_map (view.state x.s).told (view.state m).told (λ v u. SameBesidesOpens v u × (Clear x v → P v)) (λ v u. SameBesidesOpens v u × (Clear x v → Q v))
      (λ v u p. (p.0, λ clear. more v clear (p.1 clear))) at

  -- ---- endings

  -- A line refuses it.
  pub ends_halted : (x : Case) (l : Halt) (rest : List Act) (d : DavError) (t : S) (v w : World) → (plan_of x v).acts ≡ halts l ∷ rest → status_of d ≡ l.status → closes d ≡ l.close
      → SameBesidesOpens v w → EndsFor x (Err d) t v w
  ends_halted x l rest d t v w acts status close same (Ok reply) (lacks, is) =
      inl (rw acts (is ∙ refusal_same x.ask.fields (status_of d) l.status (closes d) l.close status close, same))
  ends_halted x l rest d t v w acts status close same (Err e) lacks = rw acts same

  -- Memory was refused.
  pub ends_short : (x : Case) (t : S) (v w : World) → PartOf (plan_of x v).acts v w → EndsFor x (Err dav.NoMemory) t v w
  ends_short x t v w part (Ok reply) (lacks, is) = cc
  ends_short x t v w part (Err e) lacks = part

  ends_failed : (x : Case) (t : S) (v w : World) → Rose (view.state x.s).faults (view.state t).faults → PartOf (plan_of x v).acts v w → EndsFor x (Err (dav.Fs fs.GeneralFailure)) t v w
  ends_failed x t v w rose part (Ok reply) (lacks, is) = inr (is, rose, part)
  ends_failed x t v w rose part (Err e) lacks = part

  pub spoiled_from : {T : Type 0} (s n t : S) (r : Result T FsError) → (view.state s).faults ≤ (view.state n).faults → Spoiled (view.state n) r (view.state t) → Spoiled (view.state s) r (view.state t)
  spoiled_from s n t r le (inl (f, rose)) = inl (f, rose_before (view.state s).faults (view.state n).faults (view.state t).faults le rose)
  spoiled_from s n t r le (inr f) = inr f

  spoiled_as : {T : Type 0} (s t : S) (e : FsError) → Spoiled {T = T} (view.state s) (Err e) (view.state t)
      → ((e ≡ fs.GeneralFailure) × Rose (view.state s).faults (view.state t).faults) ⊎ (e ≡ fs.NoMemory)
  spoiled_as s t e (inl (f, rose)) = inl (cc, rose)
  spoiled_as s t e (inr f) = inr cc

  -- A fault was met, or memory was refused by the store.
  pub ends_spoiled : {T : Type 0} (x : Case) (e : FsError) (t : S) (v w : World) → Spoiled {T = T} (view.state x.s) (Err e) (view.state t) → PartOf (plan_of x v).acts v w
      → EndsFor x (Err (of_fs e)) t v w
  ends_spoiled {T = T} x e t v w spoiled part = by (spoiled_as {T = T} x.s t e spoiled)
    where
      by : ((e ≡ fs.GeneralFailure) × Rose (view.state x.s).faults (view.state t).faults) ⊎ (e ≡ fs.NoMemory) → EndsFor x (Err (of_fs e)) t v w
      by (inl (f, rose)) = rw f (ends_failed x t v w rose part)
      by (inr f) = rw f (ends_short x t v w part)

  -- All was done.
  pub ends_done : (x : Case) (outcome : Outcome) (t : S) (v w : World) → done_reply (plan_of x v).done ≡ record { status = outcome.status; fields = outcome.fields; parts = [] }
      → ((reply : Reply) → reply ≡ done_reply (plan_of x v).done → ByActs x.ask.fields (plan_of x v).acts (plan_of x v).done reply v w) → EndsFor x (Ok outcome) t v w
  ends_done x outcome t v w done acts (Ok reply) is = inl (acts reply (is ∙ sym done))
  ends_done x outcome t v w done acts (Err e) is = absurd is

  -- What acts come to is what is answered.
  pub comes_ends : (x : Case) (line : Line) (outcome : Outcome) (acts : List Act) (t : S) (v w : World) → (plan_of x v).acts ≡ acts
      → done_reply (plan_of x v).done ≡ record { status = outcome.status; fields = outcome.fields; parts = [] } → Comes view x.ask.fields x.s line acts t v w
      → EndsFor x (the.unless line outcome) t v w
  comes_ends x (Ok y) outcome acts t v w is done h result said =
      ends_done x outcome t v w done
      (λ reply answered. subst (λ a. ByActs x.ask.fields a (plan_of x v).done reply v w) (sym is)
      (subst (λ z. ByActs x.ask.fields acts (plan_of x v).done z v w) (sym answered) (done_acts x.ask.fields acts (plan_of x v).done v w h))) result said
  comes_ends x (Err d) outcome acts t v w is done h (Ok reply) said = by (h.said said.0)
    where
      by : Halted x.ask.fields (refusal x.ask.fields (status_of d) (closes d)) acts v w
          ⊎ ((refusal x.ask.fields (status_of d) (closes d) ≡ failure) × Rose (view.state x.s).faults (view.state t).faults × PartOf acts v w)
          → EndsAs x.ask.fields (plan_of x v) (Ok reply) (Rose (view.state x.s).faults (view.state t).faults) v w
      by (inl halted) =
          inl (subst (λ a. ByActs x.ask.fields a (plan_of x v).done reply v w) (sym is)
          (subst (λ z. ByActs x.ask.fields acts (plan_of x v).done z v w) (sym said.1)
          (halted_acts x.ask.fields (refusal x.ask.fields (status_of d) (closes d)) acts (plan_of x v).done v w halted)))
      by (inr (failed, rose, part)) = inr (said.1 ∙ failed, rose, subst (λ a. PartOf a v w) (sym is) part)
  comes_ends x (Err d) outcome acts t v w is done h (Err e) lacks = subst (λ a. PartOf a v w) (sym is) (h.short lacks)

  -- ---- lines and looks

  -- The plan goes on with these lines, and then with these acts.
  abbrev pub Acts : Case → (World → List (Option Halt)) → (World → List Act) → World → Type 0
  Acts x lines more v = (plan_of x v).acts ≡ unless (first (lines v)) (more v)

  -- a line that is the error of a call that was spoiled
  abbrev pub FailsAs : Case → Line → S → Type 0
  FailsAs x line n = (e : FsError) × (line ≡ Err (of_fs e)) × Spoiled {T = Unit} (view.state x.s) (Err e) (view.state n)

  halts_by : (x : Case) (o : Option Halt) (rest : List (Option Halt)) (more : List Act) (d : DavError) (t : S) (v w : World) → (plan_of x v).acts ≡ unless (first (o ∷ rest)) more → Matches (Err d) o
      → SameBesidesOpens v w → EndsFor x (Err d) t v w
  halts_by x None rest more d t v w acts matches same = absurd matches
  halts_by x (Some l) rest more d t v w acts matches same = ends_halted x l [] d t v w acts matches.0 matches.1 same

  ends_as : (x : Case) (o : Option Halt) (rest : List (Option Halt)) (more : List Act) (d : DavError) (t : S) (v w : World) (Q : Type 0) → (plan_of x v).acts ≡ unless (first (o ∷ rest)) more
      → (Matches (Err d) o × Q) ⊎ FailsAs x (Err d) t → SameBesidesOpens v w → EndsFor x (Err d) t v w
  ends_as x o rest more d t v w Q acts (inl (matches, q)) same = halts_by x o rest more d t v w acts matches same
  ends_as x o rest more d t v w Q acts (inr (e, is, spoiled)) same =
      let here : d ≡ of_fs e = cc in
      subst (λ z. EndsFor x (Err z) t v w) (sym here) (ends_spoiled {T = Unit} x e t v w spoiled (part_none (plan_of x v).acts v w same))

  passes_by : (o : Option Halt) (rest : List (Option Halt)) → Matches (Ok tt) o → (first (o ∷ rest) ≡ first rest) × (o ≡ None)
  passes_by None rest matches = (refl, refl)
  passes_by (Some l) rest matches = absurd matches

  passes_as : (x : Case) (o : Option Halt) (rest : List (Option Halt)) (more : List Act) (n : S) (v : World) (Q : Type 0) → (plan_of x v).acts ≡ unless (first (o ∷ rest)) more
      → (Matches (Ok tt) o × Q) ⊎ FailsAs x (Ok tt) n → ((plan_of x v).acts ≡ unless (first rest) more) × (Q × (o ≡ None))
  passes_as x o rest more n v Q acts (inl (matches, q)) = let p = passes_by o rest matches in (acts ∙ ap (λ l. unless l more) p.0, (q, p.1))
  passes_as x o rest more n v Q acts (inr (e, is, spoiled)) = cc

  -- a goal that is met where the request ended with an error
  abbrev pub Embeds : Case → (Given → S → Type 0) → Type 0
  Embeds x G = (d : DavError) (t : S) → Right x (Err d) t → G (Err d) t

  -- A line of the table that is the plan's next, and what follows where it doesn't fit.
  pub passed_stage : (x : Case) (G : Given → S → Type 0) → Embeds x G → (line : Line) (h : World → Option Halt) (rest : World → List (Option Halt)) (more : World → List Act) (Q : World → Type 0)
      → (n : S) (run : Run S) (r : Given) (t : S) → At x n (λ v. Acts x (λ v. h v ∷ rest v) more v × ((Matches line (h v) × Q v) ⊎ FailsAs x line n))
      → (At x n (λ v. Acts x rest more v × (Q v × (h v ≡ None))) → run n r t → G r t) → Unless line run n r t → G r t
  passed_stage x G embeds (Ok u) h rest more Q n run r t at on goes =
      on (at_map x n _ _ (λ v clear p. passes_as x (h v) (rest v) (more v) n v (Q v) p.0 p.1) at) goes
  passed_stage x G embeds (Err d) h rest more Q n run r t at on (e, f) =
      rw (e, f) (embeds d n (both_map (view.state x.s).told (view.state n).told _ _
      (λ v u p clear. let q = p.1 clear in ends_as x (h v) (rest v) (more v) d n v u (Q v) q.0 q.1 p.0) at))

  pub line_stage : (x : Case) (G : Given → S → Type 0) → Embeds x G → (line : Line) (h : World → Option Halt) (rest : World → List (Option Halt)) (more : World → List Act) (Q : World → Type 0)
      → (n : S) (run : Run S) (r : Given) (t : S) → At x n (λ v. Acts x (λ v. h v ∷ rest v) more v × ((Matches line (h v) × Q v) ⊎ FailsAs x line n))
      → (At x n (λ v. Acts x rest more v × Q v) → run n r t → G r t) → Unless line run n r t → G r t
  line_stage x G embeds line h rest more Q n run r t at on goes =
      passed_stage x G embeds line h rest more Q n run r t at (λ at. on (at_map x n _ _ (λ v clear p. (p.0, p.1.0)) at)) goes

  pub short_stage : (x : Case) (G : Given → S → Type 0) → Embeds x G → (P : World → Type 0) (n : S) (r : Given) (t : S) → At x n P → Ends (Err dav.NoMemory) n r t → G r t
  short_stage x G embeds P n r t at (e, f) =
      rw (e, f) (embeds dav.NoMemory n (both_map (view.state x.s).told (view.state n).told _ _
      (λ v u p clear. ends_short x n v u (part_none (plan_of x v).acts v u p.0)) at))

  -- what is known after a look
  pub looked : (x : Case) (P : World → Type 0) (path : WebPath) (found : Result Info FsError) (m n : S) → Reached view lists writes c x.s m
      → Told view lists writes c m n (LooksBy view lists writes c x.rules x.knows path m found n)
      → ((v : World) → Clear x v → is_linked v.tree (resolved x.rules v.tree path.names) ≡ false) → At x m P
      → At x n (λ v. P v × (Finds (stands x.rules v path) found ⊎ Spoiled (view.state x.s) found (view.state n)))
  looked x P path found m n reached look free at =
      both_then (view.state x.s).told (view.state m).told (view.state n).told _ _ _
      (λ v u a p q. (
        same_besides_then v u a p.0 q.0,
        λ clear. (p.1 clear, on v u p.0 (q.1 (regular_same x.rules x.knows v u p.0.tree clear.regular) (subst (λ (tree : List Row). is_linked tree (resolved x.rules tree path.names) ≡ false) (sym p.0.tree) (free v clear)))),
      ))
      at look
    where
      on : (v u : World) → SameBesidesOpens v u → Finds (stands x.rules u path) found ⊎ Spoiled (view.state m) found (view.state n)
          → Finds (stands x.rules v path) found ⊎ Spoiled (view.state x.s) found (view.state n)
      on v u same (inl finds) = inl (subst (λ y. Finds y found) (stands_same x.rules v u path same) finds)
      on v u same (inr spoiled) = inr (spoiled_from x.s m n found (x.follows.counts m reached) spoiled)

  -- what a line says of a look that was spoiled
  pub record SaysFaults (judge : Result Info FsError → Line) : Type 0 where
    pub failed : judge (Err fs.GeneralFailure) ≡ Err (dav.Fs fs.GeneralFailure)
    pub short : judge (Err fs.NoMemory) ≡ Err dav.NoMemory

  fails_as : (x : Case) (judge : Result Info FsError → Line) → SaysFaults judge → (found : Result Info FsError) (n : S) → Spoiled (view.state x.s) found (view.state n) → FailsAs x (judge found) n
  fails_as x judge says found n (inl (f, rose)) = (fs.GeneralFailure, ap judge f ∙ says.failed, inl (refl, rose))
  fails_as x judge says found n (inr f) = (fs.NoMemory, ap judge f ∙ says.short, inr refl)

  -- What follows a look, by its line, where more is known.
  pub seen_stage : (x : Case) (G : Given → S → Type 0) → Embeds x G → (path : WebPath) (judge : Result Info FsError → Line) → SaysFaults judge → (h : World → Option Halt)
      → (rest : World → List (Option Halt)) (more : World → List Act) (K : World → Type 0)
      → ((v : World) (found : Result Info FsError) → Finds (stands x.rules v path) found → Matches (judge found) (h v))
      → ((v : World) → Clear x v → is_linked v.tree (resolved x.rules v.tree path.names) ≡ false)
      → (run : Run S) (found : Result Info FsError) (m n : S) (r : Given) (t : S) → Reached view lists writes c x.s m
      → Told view lists writes c m n (LooksBy view lists writes c x.rules x.knows path m found n) → At x m (λ v. Acts x (λ v. h v ∷ rest v) more v × K v)
      → (At x n (λ v. Acts x rest more v × ((K v × Finds (stands x.rules v path) found) × (h v ≡ None))) → run n r t → G r t)
      → Next (Unless (judge found) run) n r t → G r t
  seen_stage x G embeds path judge says h rest more K agrees free run found m n r t reached look at on (inl short) =
      short_stage x G embeds _ n r t (looked x (λ v. Acts x (λ v. h v ∷ rest v) more v × K v) path found m n reached look free at) short
  seen_stage x G embeds path judge says h rest more K agrees free run found m n r t reached look at on (inr goes) =
      passed_stage x G embeds (judge found) h rest more (λ v. K v × Finds (stands x.rules v path) found) n run r t
      (at_map x n _ _ (λ v clear p. (p.0.0, judged v p.0.1 p.1)) (looked x (λ v. Acts x (λ v. h v ∷ rest v) more v × K v) path found m n reached look free at)) on goes
    where
      judged : (v : World) → K v → Finds (stands x.rules v path) found ⊎ Spoiled (view.state x.s) found (view.state n)
          → (Matches (judge found) (h v) × (K v × Finds (stands x.rules v path) found)) ⊎ FailsAs x (judge found) n
      judged v known (inl finds) = inl (agrees v found finds, (known, finds))
      judged v known (inr spoiled) = inr (fails_as x judge says found n spoiled)

  -- A look, its line, and what follows.
  pub look_stage : (x : Case) (G : Given → S → Type 0) → Embeds x G → (path : WebPath) (judge : Result Info FsError → Line) → SaysFaults judge → (h : World → Option Halt)
      → (rest : World → List (Option Halt)) (more : World → List Act)
      → ((v : World) (found : Result Info FsError) → Finds (stands x.rules v path) found → Matches (judge found) (h v))
      → ((v : World) → Clear x v → is_linked v.tree (resolved x.rules v.tree path.names) ≡ false)
      → (run : Result Info FsError → Run S) (m : S) (r : Given) (t : S) → Reached view lists writes c x.s m → At x m (Acts x (λ v. h v ∷ rest v) more)
      → ((found : Result Info FsError) (n : S) → Reached view lists writes c x.s n → At x n (λ v. Acts x rest more v × Finds (stands x.rules v path) found) → run found n r t → G r t)
      → Looks view c path (λ found. Unless (judge found) (run found)) m r t → G r t
  look_stage x G embeds path judge says h rest more agrees free run m r t reached at on (found, n, look, next) =
      seen_stage x G embeds path judge says h rest more (λ v. Unit {0}) agrees free (run found) found m n r t reached (x.follows.looks m n path found reached look)
      (at_map x m _ _ (λ v clear p. (p, tt)) at)
      (λ at. on found n (looks m n path found reached look) (at_map x n _ _ (λ v clear p. (p.0, p.1.0.1)) at)) next

-- ---- all worlds

module _ {S C F L E : Type 0} (view : View S C F) (lists : Listings S C L E) (writes : Writes F) (c : C) where
  -- What ended as its plan says is right, by what holds of every told world.
  pub right_in : (rules : Rules) (k : Knowledge) (s : S) → (follows : Follows view lists writes c rules k s) → (ask : Ask) (r : Given) (t : S)
      → Right view lists writes c planned linked (record { rules = rules; knows = k; ask = ask; s = s; follows = follows }) r t
      → Told view lists writes c s t (λ v w. IsRegular rules k v → RightIn view lists writes c rules ask s r t v w)
  right_in rules k s follows ask r t right =
      both_known (view.state s).told (view.state t).told _ _
      (λ v w told ends regular result answers links. ends (record { world = follows.trees s v here told; regular = regular; links = links }) result answers) right

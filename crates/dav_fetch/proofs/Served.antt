-- Where a told peer answers a file's request with 200, 206 or 304, a file stands there, and this is sent of it.
use Rattle.std.proofs.Common.{◌≡◌, inl, inr, ◌==◌, ◌||◌, ℕ, Bool, true, false, Result, Ok, Err, refl, sym, ap, subst, ◌∙◌, true≢false}
use Rattle.dav_core.specs.declared.handle.DiskError.{DiskError}
use Rattle.dav_core.specs.declared.handle.DiskError.TheVariants.{NotFound}
use Rattle.dav_core.specs.declared.method.DavMethod.TheVariants.{Get}
use Rattle.dav_core.specs.declared.tree.Kind.{Kind}
use Rattle.dav_core.specs.declared.tree.Kind.TheVariants.{Dir, File, Link}
use Rattle.dav_core.specs.declared.tree.Row.{Row}
use Rattle.dav_core.specs.Path.{Names}
use Rattle.dav_core.specs.DavPath.{WebPath}
use Rattle.dav_core.specs.Errors.{fs_error_of}
use Rattle.dav_core.specs.Statuses.{fs_status}
use Rattle.dav_core.specs.Tree.{is_file, look}
use Rattle.dav_core.specs.World.{World}
use Rattle.dav_model.specs.Conditions.{Fields}
use Rattle.dav_model.specs.Due.{Due, Query, IsHead, IsRight, IsSpoiled, query, due, due_kind, due_looked, due_opened, due_sent, refused, to_slash, file}
use Rattle.dav_model.specs.Finding.{opened_at, shown_in, resolved, stood_at, exactly}
use Rattle.dav_model.specs.Head.{Reply, Stood, IsSent, sent_of, stood_in}
use Rattle.dav_model.proofs.PlainWalks.{plain_resolved}
use Rattle.dav_fetch.specs.Asking.{file_path}
use Rattle.dav_fetch.specs.Copy.{IsFileAt}
use Rattle.dav_fetch.specs.Peer.{peer_rules, peer_settings}

-- the statuses that a file's request may await
abbrev pub is_awaited : ℕ → Bool
is_awaited status = status == 200 || (status == 206 || status == 304)

abbrev pub asked : Fields → Names → Query
asked fields names = query peer_settings fields Get (file_path names)

pub record Served (w : World) (names : Names) (fields : Fields) (reply : Reply) : Type 0 where
  pub row : Row
  pub at : IsFileAt w names row
  pub sent : IsSent Get (file_path names) (stood_in w row) (sent_of Get fields (stood_in w row)) reply

-- what is due there, by what a look finds
abbrev pub due_kinds : Kind → WebPath → Stood → Due
due_kinds Dir path stood = to_slash path
due_kinds File path stood = file path stood
due_kinds Link path stood = refused 405 false

abbrev pub due_by : World → Names → Result Row DiskError → Due
due_by w names (Err e) = refused (fs_status (fs_error_of e)) false
due_by w names (Ok row) = due_kinds row.kind (file_path names) (stood_in w row)

pub due_is : (w : World) (fields : Fields) (names : Names) (found : Result Row DiskError) → look w.tree (resolved peer_rules w.tree names) ≡ found
    → due (shown_in peer_rules w) (asked fields names) ≡ due_by w names found
due_is w fields names (Err e) is = ap (λ f. due_looked (shown_in peer_rules w) (asked fields names) (stood_at false w f)) is
due_is w fields names (Ok row) is =
    ap (λ f. due_looked (shown_in peer_rules w) (asked fields names) (stood_at false w f)) is ∙ kinds row.kind refl
  where
    opened : (kind : Kind) → row.kind ≡ kind → due_opened (file_path names) (opened_at peer_rules w (exactly peer_rules w.tree) (file_path names)) ≡ due_sent kind (file_path names) (stood_in w row)
    opened kind k =
        ap (λ f. due_opened (file_path names) (stood_at false w f)) is ∙ ap (λ x. due_sent x (file_path names) (stood_in w row)) k

    kinds : (kind : Kind) → row.kind ≡ kind → due_kind (shown_in peer_rules w) (asked fields names) kind ≡ due_kinds kind (file_path names) (stood_in w row)
    kinds Dir k = refl
    kinds File k = opened File k
    kinds Link k = opened Link k

-- none of the disk's refusals has such a status
refusals_arent : (e : DiskError) → is_awaited (fs_status (fs_error_of e)) ≡ false
refusals_arent NotFound = refl
refusals_arent other = refl

never : {A : Type 0} (reply : Reply) (status : ℕ) → is_awaited reply.status ≡ true → reply.status ≡ status → is_awaited status ≡ false → A
never reply status awaited is not = absurd (true≢false (sym awaited ∙ ap is_awaited is ∙ not))

status_is : (a b : Reply) → a ≡ b → a.status ≡ b.status
status_is a b e = ap (λ (r : Reply). r.status) e

head_served : (w : World) (fields : Fields) (names : Names) (reply : Reply) (found : Result Row DiskError) → look w.tree names ≡ found → is_awaited reply.status ≡ true
    → IsHead (asked fields names) (due_by w names found) reply → Served w names fields reply
head_served w fields names reply (Err e) is awaited head = never reply _ awaited (status_is reply _ head) (refusals_arent e)
head_served w fields names reply (Ok row) is awaited head = by row.kind refl head
  where
    by : (kind : Kind) → row.kind ≡ kind → IsHead (asked fields names) (due_kinds kind (file_path names) (stood_in w row)) reply → Served w names fields reply
    by Dir k h = never reply 302 awaited (status_is reply _ h) refl
    by Link k h = never reply 405 awaited (status_is reply _ h) refl
    by File k h = record { row = row; at = record { there = is; file = ap is_file k }; sent = h }

spoiled_served : (w : World) (fields : Fields) (names : Names) (reply : Reply) (found : Result Row DiskError) → is_awaited reply.status ≡ true
    → IsSpoiled (asked fields names) (due_by w names found) reply → Served w names fields reply
spoiled_served w fields names reply (Err e) awaited spoiled = never reply 500 awaited (status_is reply _ spoiled) refl
spoiled_served w fields names reply (Ok row) awaited spoiled = by row.kind spoiled
  where
    by : (kind : Kind) → IsSpoiled (asked fields names) (due_kinds kind (file_path names) (stood_in w row)) reply → Served w names fields reply
    by Dir s = never reply 500 awaited (status_is reply _ s) refl
    by Link s = never reply 500 awaited (status_is reply _ s) refl
    by File (inl s) = never reply 500 awaited (status_is reply _ s) refl
    by File (inr s) = never reply 416 awaited (status_is reply _ s.sent.2) refl

pub served : (w : World) (fields : Fields) (names : Names) (rose : Type 0) (reply : Reply) → is_awaited reply.status ≡ true
    → IsRight (query peer_settings fields Get (file_path names)) (shown_in peer_rules w) rose reply → Served w names fields reply
served w fields names rose reply awaited (inl head) =
    head_served w fields names reply (look w.tree names) refl awaited
    (subst (λ d. IsHead (asked fields names) d reply) (due_is w fields names (look w.tree names) (ap (look w.tree) (plain_resolved peer_settings w.tree names))) head)
served w fields names rose reply awaited (inr (spoiled, r)) =
    spoiled_served w fields names reply (look w.tree names) awaited
    (subst (λ d. IsSpoiled (asked fields names) d reply) (due_is w fields names (look w.tree names) (ap (look w.tree) (plain_resolved peer_settings w.tree names))) spoiled)

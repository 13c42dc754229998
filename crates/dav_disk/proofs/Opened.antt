-- The tables of open files after a change.
use Rattle.std.proofs.Common.{◌≡◌, ◌==◌, ℕ, Bool, true, false, cond, Option, Some, refl, sym, ap, ◌∙◌}
use Rattle.std.specs.Option.{option_map}
use mathlib.Core.Path.{fun_ext}
use Rattle.dav_core.specs.World.{World, OpenFile, put}
use Rattle.dav_core.specs.Disk.{Live, with_opens}
use Rattle.dav_core.proofs.TablesLemmas.{put_map}
use Rattle.dav_core.proofs.UnchangedLemmas.{equal_keys}
use Rattle.dav_disk.specs.declared.tables.Opened.{Opened}
use Rattle.dav_disk.specs.Files.{open_of, live_of}
use Rattle.dav_disk.specs.Calls.{Known, with_place}

-- a table of values made from another's, which was changed at a key
pub table_put : {Y : Type 0} (f : Opened → Y) (old new : ℕ → Option Opened) (h : ℕ) (w : Option Opened) → new ≡ put h w old
    → (λ n. option_map f (new n)) ≡ put h (option_map f w) (λ n. option_map f (old n))
table_put f old new h w e = ap (λ (t : ℕ → Option Opened). λ n. option_map f (t n)) e ∙ put_map f h w old

same_live : (b : Bool) (o : Opened) (place : ℕ) (x : Option Opened) → (b ≡ true → x ≡ Some o)
    → cond b (Some (live_of o)) (option_map live_of x) ≡ option_map live_of x
same_live true o place x h = sym (ap (option_map live_of) (h refl))
same_live false o place x h = refl

abbrev pub lives : (ℕ → Option Opened) → ℕ → Option Live
lives table n = option_map live_of (table n)

-- a new place changes nothing that is known of a handle
live_stays : (old new : ℕ → Option Opened) (h : ℕ) (o : Opened) (place : ℕ) → old h ≡ Some o
    → new ≡ put h (Some (record o { place = place })) old → lives new ≡ lives old
live_stays old new h o place at e = table_put live_of old new h (Some (record o { place = place })) e
    ∙ fun_ext (λ n. same_live (n == h) o place (old n) (λ t. ap old (equal_keys n h t) ∙ at))

abbrev pub known : World → (ℕ → Option OpenFile) → (ℕ → Option Live) → Known
known w opens live = record { world = with_opens w opens; live = live }

-- an open file gets another place
pub place_set : (w : World) (old new : ℕ → Option Opened) (h : ℕ) (o : Opened) (place : ℕ) → old h ≡ Some o
    → new ≡ put h (Some (record o { place = place })) old
    → known w (λ n. option_map open_of (new n)) (λ n. option_map live_of (new n))
    ≡ with_place (known w (λ n. option_map open_of (old n)) (λ n. option_map live_of (old n))) h (open_of o) place
place_set w old new h o place at e =
    ap (λ (t : ℕ → Option OpenFile). known w t (λ n. option_map live_of (new n))) (table_put open_of old new h (Some (record o { place = place })) e)
    ∙ ap (λ (t : ℕ → Option Live). known w (put h (Some (record { number = o.number; place = place })) (λ n. option_map open_of (old n))) t) (live_stays old new h o place at e)

-- a handle more
pub opened_put : (w : World) (old new : ℕ → Option Opened) (h : ℕ) (o : Opened) → new ≡ put h (Some o) old
    → known w (λ n. option_map open_of (new n)) (λ n. option_map live_of (new n))
    ≡ known w (put h (Some (open_of o)) (λ n. option_map open_of (old n))) (put h (Some (live_of o)) (λ n. option_map live_of (old n)))
opened_put w old new h o e =
    ap (λ (t : ℕ → Option OpenFile). known w t (λ n. option_map live_of (new n))) (table_put open_of old new h (Some o) e)
    ∙ ap (λ (t : ℕ → Option Live). known w (put h (Some (open_of o)) (λ n. option_map open_of (old n))) t) (table_put live_of old new h (Some o) e)

pub at_map : {Y : Type 0} (f : Opened → Y) (x : Option Opened) (o : Opened) → x ≡ Some o → option_map f x ≡ Some (f o)
at_map f x o e = ap (option_map f) e

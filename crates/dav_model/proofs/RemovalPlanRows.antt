-- Worked plans of DELETE under the rules for macOS, and over one file that is served alone.
use Rattle.std.proofs.Common.{◌≡◌, ℕ, List, [], ◌∷◌, codes, pos, length, Bool, true, false, None, Some, Ok, refl, ap, ◌∙◌, inl, inr, arith}
use Rattle.std.proofs.lemmas.List.{length-map}
use Rattle.dav_core.specs.declared.method.DavMethod.TheVariants.{Delete}
use Rattle.dav_core.specs.declared.tree.Kind.{Kind}
use Rattle.dav_core.specs.declared.tree.Kind.TheVariants.{Dir, File}
use Rattle.dav_core.specs.declared.tree.Row.{Row}
use Rattle.dav_core.specs.Changes.{timed_row, without}
use Rattle.dav_core.specs.Edits.{Edited, takes}
use Rattle.dav_core.specs.Path.{Names}
use Rattle.dav_core.specs.World.{SameBesidesOpens, World}
use Rattle.dav_model.specs.Head.{Reply, refusal}
use Rattle.dav_model.specs.Plans.{Plan, does, halts, line, plan}
use Rattle.dav_model.specs.Rules.{plain_rules}
use Rattle.dav_model.specs.Unset.{nothing_set}
use Rattle.dav_model.specs.Written.{EndsAs, MakesAs, silent}

abbrev row : Names → Kind → ℕ → Row
row path kind number = record { path = path; kind = kind; number = number; time = record { secs = pos 0; nanos = 0 } }

abbrev hidden : List ℕ
hidden = codes ".localized"

-- a directory with a file, a file that clients of macOS keep, and a directory of that name with one of its own
abbrev tree : List Row
tree = row [] Dir 1 ∷ row (codes "d" ∷ []) Dir 2 ∷ row (codes "d" ∷ codes "z" ∷ []) File 3 ∷ row (codes "d" ∷ hidden ∷ []) File 4
    ∷ row (codes "d" ∷ codes "+" ∷ []) File 5 ∷ row (codes "e" ∷ []) Dir 6 ∷ row (codes "e" ∷ hidden ∷ []) Dir 7 ∷ []

abbrev w : World
w = record {
  tree = tree;
  files = λ n. None;
  opens = λ h. None;
  listings = λ h. None;
  greatest = 7;
  latest = record { secs = pos 0; nanos = 0 };
  script = [];
}

abbrev planned : Bool → Names → Plan
planned macos names = plan (record (plain_rules nothing_set) { macos = macos }) w
    (record { method = Delete; path = record { prefix = []; names = names; slash = false }; fields = []; body = [] })

-- What comes before the file goes; then the request ends.
keeps_file : (planned true (codes "d" ∷ [])).acts ≡ does (takes (codes "d" ∷ codes "+" ∷ [])) ∷ halts (line 403)
    ∷ does (takes (codes "d" ∷ codes "z" ∷ [])) ∷ does (takes (codes "d" ∷ [])) ∷ []
keeps_file = refl

takes_dir : (planned true (codes "e" ∷ [])).acts ≡ does (takes (codes "e" ∷ hidden ∷ [])) ∷ does (takes (codes "e" ∷ [])) ∷ []
takes_dir = refl

without_rules : (planned false (codes "d" ∷ [])).acts ≡ does (takes (codes "d" ∷ codes "+" ∷ []))
    ∷ does (takes (codes "d" ∷ hidden ∷ [])) ∷ does (takes (codes "d" ∷ codes "z" ∷ [])) ∷ does (takes (codes "d" ∷ [])) ∷ []
without_rules = refl

-- As asked, neither is found.
hides_it : (planned true (codes "d" ∷ hidden ∷ [])).acts ≡ halts (line 404) ∷ []
hides_it = refl

-- ---- over one file that is served alone

abbrev planned_alone : Bool → Names → Names → Bool → Plan
planned_alone macos file names slash = plan (record (plain_rules nothing_set) { macos = macos; alone = Some file }) w
    (record { method = Delete; path = record { prefix = []; names = names; slash = slash }; fields = []; body = [] })

-- The file goes, at whatever path it is asked for.
takes_one : (planned_alone false (codes "d" ∷ codes "z" ∷ []) (codes "x" ∷ []) true).acts ≡ does (takes (codes "d" ∷ codes "z" ∷ [])) ∷ []
takes_one = refl

-- It is gone.
finds_none : (planned_alone false (codes "d" ∷ codes "f" ∷ []) (codes "x" ∷ []) false).acts ≡ halts (line 404) ∷ []
finds_none = refl

-- A directory came in its place: without members it goes, with members nothing goes.
takes_empty : (planned_alone false (codes "e" ∷ hidden ∷ []) (codes "x" ∷ codes "y" ∷ []) false).acts ≡ does (takes (codes "e" ∷ hidden ∷ [])) ∷ []
takes_empty = refl

keeps_full : (planned_alone false (codes "d" ∷ []) (codes "x" ∷ []) false).acts ≡ halts (line 403) ∷ []
keeps_full = refl

-- The root is asked for, or a file by a name that clients of macOS may not use; or the file itself has such a name.
keeps_root : (planned_alone false (codes "d" ∷ codes "z" ∷ []) [] true).acts ≡ halts (line 403) ∷ []
keeps_root = refl

keeps_named : (planned_alone true (codes "d" ∷ codes "z" ∷ []) (codes "x" ∷ hidden ∷ []) false).acts ≡ halts (line 403) ∷ []
keeps_named = refl

hides_one : (planned_alone true (codes "d" ∷ hidden ∷ []) (codes "x" ∷ []) false).acts ≡ halts (line 404) ∷ []
hides_one = refl

-- What a DELETE may be answered over one file, where no fault was met, and what it may leave.
abbrev Makes : Names → Reply → World → Type 0
Makes file reply left = MakesAs Delete (record (plain_rules nothing_set) { alone = Some file })
    (record { method = Delete; path = record { prefix = []; names = codes "x" ∷ []; slash = false }; fields = []; body = [] }) (Ok reply) ⊥ w left

apart : (n : ℕ) → n ≡ 7 → n ≡ 6 → ⊥
apart n e f = absurd (omega (arith, e, f))

-- The file isn't left where 204 is answered.
leaves_none : Makes (codes "d" ∷ codes "z" ∷ []) silent w → ⊥
leaves_none makes = by (makes refl)
  where
    rows : (v m : World) → SameBesidesOpens m v → Edited (takes (codes "d" ∷ codes "z" ∷ [])) v m → length v.tree ≡ length (without (codes "d" ∷ codes "z" ∷ []) v.tree)
    rows v m same (t, new, is) = ap length (same.tree ∙ is.tree) ∙ length-map (without (codes "d" ∷ codes "z" ∷ []) v.tree) (timed_row (codes "d" ∷ []) t)

    by : EndsAs [] (planned_alone false (codes "d" ∷ codes "z" ∷ []) (codes "x" ∷ []) false) (Ok silent) ⊥ w w → ⊥
    by (inl (m, edited, ended)) = apart (length w.tree) refl (rows w m ended.1 edited)
    by (inr (failed, rose, part)) = absurd rose

-- It isn't refused where the file could go.
answers_done : (reply : Reply) (left : World) → Makes (codes "d" ∷ codes "z" ∷ []) reply left → reply ≡ silent
answers_done reply left makes = by (makes refl)
  where
    by : EndsAs [] (planned_alone false (codes "d" ∷ codes "z" ∷ []) (codes "x" ∷ []) false) (Ok reply) ⊥ w left → reply ≡ silent
    by (inl (m, edited, ended)) = ended.0
    by (inr (failed, rose, part)) = absurd rose

-- A directory with members doesn't go, nor is 204 answered.
takes_none : (reply : Reply) (left : World) → Makes (codes "d" ∷ []) reply left → (reply ≡ refusal [] 403 false) × SameBesidesOpens w left
takes_none reply left makes = by (makes refl)
  where
    by : EndsAs [] (planned_alone false (codes "d" ∷ []) (codes "x" ∷ []) false) (Ok reply) ⊥ w left → (reply ≡ refusal [] 403 false) × SameBesidesOpens w left
    by (inl held) = held
    by (inr (failed, rose, part)) = absurd rose

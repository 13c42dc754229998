-- Worked plans of COPY and MOVE.
use Rattle.std.proofs.Common.{◌≡◌, ℕ, List, [], ◌∷◌, ◌++◌, codes, pos, Bool, true, false, None, Some, Ok, Err, refl, inl, inr}
use Rattle.dav_core.specs.declared.dav_error.DavError.TheVariants.{Path}
use Rattle.dav_core.specs.declared.parse_error.ParseError.TheVariants.{PrefixMismatch}
use Rattle.dav_core.specs.declared.method.DavMethod.TheVariants.{Copy}
use Rattle.dav_core.specs.declared.tree.Kind.{Kind}
use Rattle.dav_core.specs.declared.tree.Kind.TheVariants.{Dir, File}
use Rattle.dav_core.specs.declared.tree.Row.{Row}
use Rattle.dav_core.specs.DavPath.{WebPath}
use Rattle.dav_core.specs.Edits.{makes, moves, takes}
use Rattle.dav_core.specs.Path.{Names}
use Rattle.dav_core.specs.World.{SameBesidesOpens, World, put}
use Rattle.dav_model.specs.declared.asked.Asked.{Asked}
use Rattle.dav_model.specs.CarryPlans.{carry_plan, moves_in}
use Rattle.dav_model.specs.Head.{Reply, refusal}
use Rattle.dav_model.specs.Plans.{Ask, Plan, does, halts, line}
use Rattle.dav_model.specs.Rules.{plain_rules}
use Rattle.dav_model.specs.Unset.{nothing_set}
use Rattle.dav_model.specs.Written.{EndsAs, silent}

abbrev row : Names → Kind → ℕ → Row
row path kind number = record { path = path; kind = kind; number = number; time = record { secs = pos 0; nanos = 0 } }

-- a directory with a file and a directory, another with a file, and a file
abbrev tree : List Row
tree = row [] Dir 1 ∷ row (codes "s" ∷ []) Dir 2 ∷ row (codes "s" ∷ codes "b" ∷ []) Dir 3 ∷ row (codes "s" ∷ codes "a" ∷ []) File 4
    ∷ row (codes "d" ∷ []) Dir 5 ∷ row (codes "d" ∷ codes "y" ∷ []) File 6 ∷ row (codes "f" ∷ []) File 7 ∷ []

abbrev w : World
w = record {
  tree = tree;
  files = put 4 (Some (record { bytes = codes "xyz"; time = record { secs = pos 0; nanos = 0 } })) (λ n. None);
  opens = λ h. None;
  listings = λ h. None;
  greatest = 7;
  latest = record { secs = pos 0; nanos = 0 };
  script = [];
}

abbrev at : Names → Bool → WebPath
at names slash = record { prefix = []; names = names; slash = slash }

abbrev asks : Bool → Names → Bool → Bool → Asked
asks moving to replaces alone = record { moving = moving; to = at to false; replaces = replaces; alone = alone }

abbrev planned : Names → Asked → Plan
planned from asked = carry_plan (plain_rules nothing_set) w (record { method = Copy; path = at from false; fields = []; body = [] }) (Ok asked)

copies_tree : planned (codes "s" ∷ []) (asks false (codes "n" ∷ []) true false)
    ≡ record {
      acts = does (makes (codes "n" ∷ []) Dir []) ∷ does (makes (codes "n" ∷ codes "a" ∷ []) File (codes "xyz"))
          ∷ does (makes (codes "n" ∷ codes "b" ∷ []) Dir []) ∷ [];
      done = 201;
    }
copies_tree = refl

copies_alone : planned (codes "s" ∷ []) (asks false (codes "n" ∷ []) true true)
    ≡ record { acts = does (makes (codes "n" ∷ []) Dir []) ∷ []; done = 201 }
copies_alone = refl

copies_over : planned (codes "f" ∷ []) (asks false (codes "d" ∷ []) true false)
    ≡ record {
      acts = does (takes (codes "d" ∷ codes "y" ∷ [])) ∷ does (takes (codes "d" ∷ []))
          ∷ does (makes (codes "d" ∷ []) File []) ∷ [];
      done = 204;
    }
copies_over = refl

onto_itself : (planned (codes "s" ∷ []) (asks false (codes "s" ∷ []) true false)).acts ≡ halts (line 403) ∷ []
onto_itself = refl

into_itself : (planned (codes "s" ∷ []) (asks true (codes "s" ∷ codes "b" ∷ codes "n" ∷ []) true false)).acts ≡ halts (line 403) ∷ []
into_itself = refl

nothing_there : (planned (codes "z" ∷ []) (asks false (codes "z" ∷ []) true false)).acts ≡ halts (line 404) ∷ []
nothing_there = refl

no_directory : (planned (codes "s" ∷ []) (asks false (codes "f" ∷ codes "n" ∷ []) true false)).acts ≡ halts (line 409) ∷ []
no_directory = refl

replaces_not : (planned (codes "s" ∷ []) (asks true (codes "d" ∷ []) false false)).acts ≡ halts (line 412) ∷ []
replaces_not = refl

moves_over : planned (codes "s" ∷ []) (asks true (codes "f" ∷ []) true false)
    ≡ record { acts = does (takes (codes "f" ∷ [])) ∷ does (moves (codes "s" ∷ []) (codes "f" ∷ [])) ∷ []; done = 204 }
moves_over = refl

moves_new : planned (codes "d" ∷ []) (asks true (codes "s" ∷ codes "d" ∷ []) false false)
    ≡ record { acts = does (moves (codes "d" ∷ []) (codes "s" ∷ codes "d" ∷ [])) ∷ []; done = 201 }
moves_new = refl

elsewhere : (carry_plan (plain_rules nothing_set) w (record { method = Copy; path = at (codes "s" ∷ []) false; fields = []; body = [] }) (Err (Path PrefixMismatch))).acts
    ≡ halts (line 404) ∷ []
elsewhere = refl

-- ---- over one file that is served alone

abbrev by_path : Names → Ask
by_path from = record { method = Copy; path = at from false; fields = []; body = [] }

-- by the place of the file
abbrev over_one : Names → Asked → Plan
over_one file asked = carry_plan (record (plain_rules nothing_set) { alone = Some file }) w (by_path (codes "x" ∷ [])) (Ok asked)

-- The file stands, and no directory above what is asked for.
one_file : (over_one (codes "f" ∷ []) (asks true (codes "n" ∷ []) true false)).acts ≡ halts (line 409) ∷ []
one_file = refl

-- A directory without members came in its place. It goes, and what is to be moved went with it.
moves_one : (over_one (codes "s" ∷ codes "b" ∷ []) (asks true (codes "n" ∷ []) true false)).acts
    ≡ does (takes (codes "s" ∷ codes "b" ∷ [])) ∷ halts (line 404) ∷ []
moves_one = refl

copies_one : over_one (codes "s" ∷ codes "b" ∷ []) (asks false (codes "n" ∷ []) true false)
    ≡ record {
      acts = does (takes (codes "s" ∷ codes "b" ∷ [])) ∷ does (makes (codes "s" ∷ codes "b" ∷ []) Dir []) ∷ [];
      done = 204;
    }
copies_one = refl

-- What a MOVE or a COPY may be answered there, where no fault was met, and what it may leave.
abbrev carried : Names → Asked → Reply → World → Type 0
carried file asked reply left = EndsAs [] (over_one file asked) (Ok reply) ⊥ w left

-- While the file stands all are refused, and it stays.
stays_one : (reply : Reply) (left : World) → carried (codes "f" ∷ []) (asks true (codes "n" ∷ []) true false) reply left → (reply ≡ refusal [] 409 false) × SameBesidesOpens w left
stays_one reply left (inl kept) = kept
stays_one reply left (inr (failed, rose, part)) = absurd rose

keeps_one : (reply : Reply) (left : World) → carried (codes "f" ∷ []) (asks false (codes "n" ∷ []) true false) reply left → (reply ≡ refusal [] 409 false) × SameBesidesOpens w left
keeps_one reply left (inl kept) = kept
keeps_one reply left (inr (failed, rose, part)) = absurd rose

-- A directory with members stays.
keeps_full : (reply : Reply) (left : World) → carried (codes "d" ∷ []) (asks true (codes "n" ∷ []) true false) reply left → (reply ≡ refusal [] 403 false) × SameBesidesOpens w left
keeps_full reply left (inl kept) = kept
keeps_full reply left (inr (failed, rose, part)) = absurd rose

-- Of one without members a MOVE isn't answered as done, and a COPY isn't answered 201.
moves_none : (reply : Reply) (left : World) → carried (codes "s" ∷ codes "b" ∷ []) (asks true (codes "n" ∷ []) true false) reply left → reply ≡ refusal [] 404 false
moves_none reply left (inl (m, edited, ended)) = ended.0
moves_none reply left (inr (failed, rose, part)) = absurd rose

copies_silently : (reply : Reply) (left : World) → carried (codes "s" ∷ codes "b" ∷ []) (asks false (codes "n" ∷ []) true false) reply left → reply ≡ silent
copies_silently reply left (inl (m, edited, ended)) = ended.2.0
copies_silently reply left (inr (failed, rose, part)) = absurd rose

-- ---- a directory is moved to where a file stands that no look shows

abbrev hidden : List ℕ
hidden = codes ".localized"

abbrev with_hidden : List Row
with_hidden = tree ++ row (hidden ∷ []) File 8 ∷ []

dir_onto : moves_in with_hidden (codes "d" ∷ []) (hidden ∷ []) ≡ does (takes (hidden ∷ [])) ∷ does (moves (codes "d" ∷ []) (hidden ∷ [])) ∷ []
dir_onto = refl

file_onto : moves_in with_hidden (codes "f" ∷ []) (hidden ∷ []) ≡ does (moves (codes "f" ∷ []) (hidden ∷ [])) ∷ []
file_onto = refl

dir_into : moves_in with_hidden (codes "d" ∷ []) (codes "s" ∷ codes "n" ∷ []) ≡ does (moves (codes "d" ∷ []) (codes "s" ∷ codes "n" ∷ [])) ∷ []
dir_into = refl

-- What a player tells as a peer, by its stage and by what is kept of the last reply.
use Rattle.std.specs.Prelude.{◌&&◌, ◌||◌, ◌==◌, ◌+◌, ◌^◌, ◌++◌, min, ℕ, List, [], ◌∷◌, Bool, true, false, cond, not, is_some, Option, None, Some}
use Rattle.dav_core.specs.declared.tree.Row.{Row}
use Rattle.dav_io.specs.declared.clock.Moment.{Moment}
use Rattle.dav_core.specs.DavPath.{WebPath}
use Rattle.dav_core.specs.Tree.{is_linked}
use Rattle.dav_core.specs.World.{World}
use Rattle.dav_model.specs.declared.settings.Settings.{Settings}
use Rattle.dav_model.specs.Bodies.{Part}
use Rattle.dav_model.specs.Finding.{is_clear}
use Rattle.dav_model.specs.Play.{Playing, Stage}
use Rattle.dav_model.specs.Rules.{Rules}
use Rattle.dav_fetch.specs.Peer.{Calls, PeerState, Seen, body_in}
use Rattle.dav_mirror.specs.declared.play_peer.Heard.{Heard}
use Rattle.dav_mirror.specs.declared.play_peer.Heard.TheVariants.{Asked, Unasked, Unheard}

-- No link is met by a GET of the path: none stands on the way to it or at it, nor in the directory whose page it asks for.
abbrev pub is_clear_at : WebPath → List Row → Bool
is_clear_at path tree = not (is_linked tree path.names) && (not path.slash || is_clear tree path.names)

abbrev pub is_none : List ℕ → Bool
is_none [] = true
is_none (b ∷ bs) = false

abbrev pub is_on : Option Bool → Bool
is_on None = false
is_on (Some on) = on

-- Pages are permitted, and nothing else is set but the size of the read buffer.
abbrev pub is_peer_set : Settings → Bool
is_peer_set s = is_none s.prefix && (not (is_some s.allow) && (not (is_some s.principal) && (not (is_some s.hide_symlinks)
    && (is_on s.autoindex && (not (is_some s.indexfile) && not (is_some s.redirect))))))

-- The rules are those of a peer that tells: such settings, and each path is meant as it is written.
abbrev pub are_peer_rules : Rules → Bool
are_peer_rules rules = is_peer_set rules.settings && (not rules.folds && (not rules.macos && not (is_some rules.alone)))

-- what a reply is the answer to, by whether its request is heard as one of the path
abbrev pub heard_by : Bool → WebPath → Heard
heard_by true path = Asked path
heard_by false path = Unheard path

-- Whether a player tells its disk's world in a tree: under the rules of a peer, before its first reply, and behind one that
-- was heard and met no link.
abbrev pub tells : Heard → Rules → List Row → Bool
tells Unasked rules tree = are_peer_rules rules
tells (Asked path) rules tree = are_peer_rules rules && is_clear_at path tree
tells (Unheard path) rules tree = false

-- What is told: the disk's world, and what is left of the body, behind what is kept of its last piece.
abbrev pub seen_in : (List Row → Bool) → List ℕ → List Part → Option World → Option Seen
seen_in on kept parts None = None
seen_in on kept parts (Some w) = cond (on w.tree) (Some (record { world = w; left = kept ++ body_in w parts })) None

-- what the body of a reply has left, where there is one
abbrev pub left_at : Option ℕ → Playing → List Part
left_at None p = []
left_at (Some body) p = p.left body

abbrev pub seen_of : Heard → List ℕ → Option ℕ → Stage → Option Seen
seen_of heard kept body a = seen_in (tells heard a.playing.rules) kept (left_at body a.playing) a.at.told

-- when each of its requests is played
abbrev pub peer_moment : Moment
peer_moment = record { 0 = 0 }

-- the path of the last reply, where there was one
abbrev pub path_of : Heard → Option WebPath
path_of Unasked = None
path_of (Asked path) = Some path
path_of (Unheard path) = Some path

-- The same is named, as long as no request was refused.
abbrev pub named_in : Heard → ℕ → Option WebPath
named_in heard refused = cond (refused == 0) (path_of heard) None

-- It stands on the disk's world. The count is that of the disk and the peer's own together.
abbrev pub peer_in : Heard → List ℕ → Option ℕ → ℕ → Stage → PeerState
peer_in heard kept body refused a = record {
  told = seen_of heard kept body a;
  world = a.at.told;
  path = named_in heard refused;
  faults = a.at.faults + refused;
}

-- How many replies it gave, as far as 2^31. Before that it refused none.
abbrev pub replies_in : ℕ → ℕ → ℕ
replies_in given refused = cond (refused == 0) (min given (2 ^ 31)) (2 ^ 31)

abbrev pub calls_in : ℕ → ℕ → ℕ → ℕ → Calls
calls_in given refused failures turns = record { replies = replies_in given refused; failures = failures; turns = turns }

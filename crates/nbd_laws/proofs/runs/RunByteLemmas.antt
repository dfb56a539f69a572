-- The bytes of a run but for open bytes: each side's are its completed messages' encodings and the open ones.
use Rattle.nbd_laws.proofs.Common.{arith, ◌≡◌, ℕ, List, [], ◌∷◌, ◌++◌, map, flat_map, refl, sym, ◌∙◌, ap, subst, Bool, true, false, if◌then◌else◌, append_assoc, append-nil, Profile, Side, Client, Server, Message, enc, Item, Byte, Starts, Completes, Serves, IsSided, block, completed_messages, of_side, pairs, Pair, bytes_of, RunsHoldEachSide, bytes_from, IsRunBut, complete, side, same_side, Core, start_of, Both, get}
use Rattle.nbd_laws.proofs.{reading.ReaderLemmas.{Busy, Idle, Loose, Open, Walk, ended, final, loose, middle, opening, serving}, runs.{BlockLemmas.marked_is_walk, FollowLemmas.{Follows, IsSidedOpen, each_with, follows}}}

abbrev pub byte_from : Side → Side → ℕ → List ℕ
byte_from s t b = if same_side s t then b ∷ [] else []

pub bytes_from-cons : (s : Side) (p : Pair) (ps : List Pair) → bytes_from s (p ∷ ps) ≡ byte_from s p.from p.byte ++ bytes_from s ps
bytes_from-cons s p ps = grind arith

-- a side's bytes stand in its own items
bytes_of_side : (s : Side) (items : List Item) → bytes_from s (pairs items) ≡ bytes_from s (pairs (of_side s items))
bytes_of_side s [] = refl
bytes_of_side Client (Byte Client b ∷ items) = ap (λ l. b ∷ l) (bytes_of_side Client items)
bytes_of_side Client (Byte Server b ∷ items) = bytes_of_side Client items
bytes_of_side Server (Byte Client b ∷ items) = bytes_of_side Server items
bytes_of_side Server (Byte Server b ∷ items) = ap (λ l. b ∷ l) (bytes_of_side Server items)
bytes_of_side Client (Starts Client m ∷ items) = bytes_of_side Client items
bytes_of_side Client (Starts Server m ∷ items) = bytes_of_side Client items
bytes_of_side Server (Starts Client m ∷ items) = bytes_of_side Server items
bytes_of_side Server (Starts Server m ∷ items) = bytes_of_side Server items
bytes_of_side Client (Completes Client m ∷ items) = bytes_of_side Client items
bytes_of_side Client (Completes Server m ∷ items) = bytes_of_side Client items
bytes_of_side Server (Completes Client m ∷ items) = bytes_of_side Server items
bytes_of_side Server (Completes Server m ∷ items) = bytes_of_side Server items
bytes_of_side s (Serves k ∷ items) = bytes_of_side s items

bytes_run : (s : Side) (bs : List ℕ) (items : List Item) → bytes_from s (pairs (map (λ b. Byte s b) bs ++ items)) ≡ bs ++ bytes_from s (pairs items)
bytes_run s [] items = refl
bytes_run Client (b ∷ bs) items = ap (λ l. b ∷ l) (bytes_run Client bs items)
bytes_run Server (b ∷ bs) items = ap (λ l. b ∷ l) (bytes_run Server bs items)

blocks-append : (s : Side) (m : Message) (ms : List Message) (items : List Item) → flat_map (block s) (m ∷ ms) ++ items ≡ Starts s m ∷ map (λ b. Byte s b) (enc m) ++ Completes s m ∷ (flat_map (block s) ms ++ items)
blocks-append s m ms items = grind (arith, append_assoc)

-- the bytes of blocks and of what stands after them
bytes_of_blocks : (s : Side) (ms : List Message) (items : List Item) → bytes_from s (pairs (flat_map (block s) ms ++ items)) ≡ flat_map enc ms ++ bytes_from s (pairs items)
bytes_of_blocks s [] items = refl
bytes_of_blocks s (m ∷ ms) items = search (blocks-append, bytes_run, flat_map, append_assoc, bytes_of_blocks s ms items)

completed_run : (s : Side) (bs : List ℕ) (items : List Item) → completed_messages (map (λ b. Byte s b) bs ++ items) ≡ completed_messages items
completed_run s [] items = refl
completed_run s (b ∷ bs) items = completed_run s bs items

completed_blocks : (s : Side) (ms : List Message) (rest : List ℕ) → completed_messages (flat_map (block s) ms ++ map (λ b. Byte s b) rest) ≡ ms
completed_blocks s [] rest = ap completed_messages (sym (append-nil (map (λ b. Byte s b) rest))) ∙ completed_run s rest []
completed_blocks s (m ∷ ms) rest = grind (arith, completed_run, blocks-append, completed_blocks s ms rest)

-- each message completes on its side
abbrev AreSided : List Item → Type 0
AreSided [] = Unit {0}
AreSided (Byte s b ∷ items) = AreSided items
AreSided (Starts s m ∷ items) = AreSided items
AreSided (Completes s m ∷ items) = (side m ≡ s) × AreSided items
AreSided (Serves k ∷ items) = AreSided items

sided : {P : Type 0} {o : Both Open} {items : List Item} → Walk P o items → (core : Core) → Follows core items → ((u : Side) → IsSidedOpen u (get o u)) → AreSided items
sided (ended c d) core f all = tt
sided (serving k w) core f all = sided w core f all
sided {o = o} (opening s m b left i e g w) core f all = sided w core f.1 (each_with IsSidedOpen o s (Busy m left) all f.0.sided)
sided {o = o} (middle s m b left i g w) core f all = sided w core f (each_with IsSidedOpen o s (Busy m left) all (subst (IsSidedOpen s) i (all s)))
sided {o = o} (final s m b i w) core f all = (subst (IsSidedOpen s) i (all s), sided w (complete core m) f.1 (each_with IsSidedOpen o s Idle all tt))
sided {o = o} (loose s b p i w) core f all = sided w core f (each_with IsSidedOpen o s Loose all tt)

bytes_of_completed : (s : Side) (items : List Item) → AreSided items → bytes_of s (completed_messages items) ≡ flat_map enc (completed_messages (of_side s items))
bytes_of_completed s [] h = refl
bytes_of_completed s (Byte t x ∷ items) h = grind (arith, bytes_of_completed s items h)
bytes_of_completed s (Starts t m ∷ items) h = go (same_side s t) (bytes_of_completed s items h)
  where
    go : (b : Bool) → bytes_of s (completed_messages items) ≡ flat_map enc (completed_messages (of_side s items)) →
        bytes_of s (completed_messages items) ≡ flat_map enc (completed_messages (if b then Starts t m ∷ of_side s items else of_side s items))
    go true ih = ih
    go false ih = ih
bytes_of_completed s (Completes t m ∷ items) h =
    ap (λ u. if same_side s u then enc m ++ bytes_of s (completed_messages items) else bytes_of s (completed_messages items)) h.0 ∙ go (same_side s t) (bytes_of_completed s items h.1)
  where
    go : (b : Bool) → bytes_of s (completed_messages items) ≡ flat_map enc (completed_messages (of_side s items)) →
        (if b then enc m ++ bytes_of s (completed_messages items) else bytes_of s (completed_messages items)) ≡ flat_map enc (completed_messages (if b then Completes t m ∷ of_side s items else of_side s items))
    go true ih = ap (λ l. enc m ++ l) ih
    go false ih = ih
bytes_of_completed s (Serves k ∷ items) h = bytes_of_completed s items h

side_bytes : (s : Side) (items : List Item) (rest : List ℕ) → AreSided items → IsSided s items rest → bytes_from s (pairs items) ≡ bytes_of s (completed_messages items) ++ rest
side_bytes s items rest h d =
    bytes_of_side s items
    ∙ ap (λ l. bytes_from s (pairs l)) d.blocks
    ∙ bytes_of_blocks s d.messages (map (λ b. Byte s b) rest)
    ∙ ap (λ l. flat_map enc d.messages ++ bytes_from s (pairs l)) (sym (append-nil (map (λ b. Byte s b) rest)))
    ∙ ap (λ l. flat_map enc d.messages ++ l) (bytes_run s rest [] ∙ append-nil rest)
    ∙ ap (λ ms. flat_map enc ms ++ rest) (sym (ap completed_messages d.blocks ∙ completed_blocks s d.messages rest))
    ∙ ap (λ l. l ++ rest) (sym (bytes_of_completed s items h))

-- a run's bytes but for its marks: each side's messages and its loose bytes
pub record AreBytesOf (items : List Item) (client server : List ℕ) : Type 0 where
  pub of_client : bytes_from Client (pairs items) ≡ bytes_of Client (completed_messages items) ++ client
  pub of_server : bytes_from Server (pairs items) ≡ bytes_of Server (completed_messages items) ++ server

pub run_bytes : {profile : Profile} (items : List Item) (client server : List ℕ) → IsRunBut profile items client server → AreBytesOf items client server
run_bytes {profile} items client server run =
    let h : AreSided items = sided (marked_is_walk {P = Unit {0}} items client server (λ f. tt) (λ f. tt) run.marked) (start_of profile).core (follows items (start_of profile) run.obeys) (elim [ Client ↦ tt | Server ↦ tt ]) in
    record { of_client = side_bytes Client items client h run.marked.client_side; of_server = side_bytes Server items server h run.marked.server_side }

pub runs_hold_each_side : RunsHoldEachSide
runs_hold_each_side profile items client server run Client = (run_bytes items client server run).of_client
runs_hold_each_side profile items client server run Server = (run_bytes items client server run).of_server

-- What the readers of names answer.
use Rattle.nbd_wire.proofs.Common.{◌≡◌, ℕ, ◌+◌, ◌-◌, ◌*◌, ◌<◌, ◌≤◌, List, length, take, drop, Option, Some, None, Bool, false, IsTrue, nat_le, refl, sym, arith, length-drop, is_some, IsSplitAt, MatchOption, false_from_ne_true, and_left, lt-leb, none-some, take_all, AreBytes, HasListedForm, HasGoForm, number_at, is_listed, is_go, Reads, ReadsAs}
use Rattle.nbd_wire.proofs.{ListedFormLemmas.{Counted, listed-found, listed-only, counted-one, is_listed-exact, is_go-exact, go-found, go-only}, NumberLemmas.AreBytes-drop, ReadLemmas.Reads-none}

pub same_pair : {A B : Type 0} (a x : A) (b y : B) → a ≡ x → b ≡ y → ◌≡◌ {A = A × B} (a, b) (x, y)
same_pair a x b y e f = cc

-- a name and a text, and that they have the form
abbrev pub Listed : List ℕ → List ℕ × List ℕ → Type 0
Listed bytes v = HasListedForm v.0 v.1 bytes

pub listed-none : (bytes : List ℕ) → length bytes < 4 → Reads None (Listed bytes)
listed-none bytes short = Reads-none (Listed bytes) (λ other f. let c : Counted other.0 other.1 bytes = listed-only other.0 other.1 bytes f in omega (arith, c.whole))

pub listed-short : (bytes : List ℕ) → length bytes < 4 → false ≡ is_listed bytes
unfolding is_listed
listed-short bytes short = sym (and_left (nat_le 4 (length bytes)) _ (lt-leb 4 (length bytes) short))

-- what cutting the bytes after the length gives, where it gives something
pub listed-reads : {R : Type 0} (seen : R → List ℕ × List ℕ) (answer : Option R) (n : ℕ) (bytes behind : List ℕ) → AreBytes bytes → 4 ≤ length bytes → n ≡ number_at 0 4 bytes → behind ≡ drop 4 bytes
    → MatchOption answer (length behind < n) (λ p. IsSplitAt behind n (seen p).0 (seen p).1) → ReadsAs seen answer (Listed bytes)
listed-reads seen answer n bytes behind b l e d h = grind (arith, listed-only, length-drop, listed-found, same_pair, counted-one)

-- the rest of a slice from a place on, as the code cuts it
pub cut_behind : (p : ℕ) (bytes : List ℕ) → take (length bytes - p) (drop p bytes) ≡ drop p bytes
cut_behind p bytes = take_all (length bytes - p) (drop p bytes) (omega (arith, length-drop p bytes))

-- the test for a form states whether it was read
pub tells : {A : Type 0} (answer : Option A) (Form : A → Type 0) (test : Bool) → Reads answer Form → (IsTrue test → (v : A) × Form v) → ((v : A) → Form v → IsTrue test) → is_some answer ≡ test
tells None Form test r found only = sym (false_from_ne_true test (λ t. let f = found t in none-some f.0 ((r f.0).1 f.1)))
tells (Some v) Form test r found only = sym (only v ((r v).0 refl))

pub tells_as : {A B : Type 0} (seen : A → B) (answer : Option A) (Form : B → Type 0) (test : Bool) → ReadsAs seen answer Form → (IsTrue test → (v : B) × Form v) → ((v : B) → Form v → IsTrue test) → is_some answer ≡ test
tells_as seen None Form test r found only = tells None Form test r found only
tells_as seen (Some v) Form test r found only = tells (Some (seen v)) Form test r found only

pub listed-tells : {R : Type 0} (seen : R → List ℕ × List ℕ) (answer : Option R) (bytes : List ℕ) → AreBytes bytes → ReadsAs seen answer (Listed bytes) → is_some answer ≡ is_listed bytes
listed-tells seen answer bytes b r =
    let e = is_listed-exact bytes b in
    tells_as seen answer (Listed bytes) (is_listed bytes) r (λ t. let f = e.0 t in ((f.0, f.1), f.2)) (λ v f. e.1 (v.0, v.1, f))

-- a name and a count, and that they have the form
abbrev pub Go : List ℕ → List ℕ × ℕ → Type 0
Go bytes v = HasGoForm v.0 v.1 bytes

pub go-no_name : (bytes : List ℕ) → Reads None (Listed bytes) → Reads None (Go bytes)
go-no_name bytes h = Reads-none (Go bytes) (λ other f. let g = go-only other.0 bytes other.1 f in none-some (other.0, g.0) ((h (other.0, g.0)).1 g.1))

pub go-no_rest : (name rest bytes : List ℕ) → HasListedForm name rest bytes → (length rest ≡ 2 + 2 * number_at 0 2 rest → ⊥) → Reads None (Go bytes)
go-no_rest name rest bytes h no_whole = grind (arith, go-only, counted-one)

pub go-reads : (name rest bytes : List ℕ) (count : ℕ) → AreBytes bytes → HasListedForm name rest bytes → count ≡ number_at 0 2 rest → length rest ≡ 2 + 2 * count → Reads (Some (name, count)) (Go bytes)
go-reads name rest bytes count b h c l = grind (arith, listed-only, AreBytes-drop, go-found, go-only, counted-one, same_pair)

pub go-tells : {R : Type 0} (seen : R → List ℕ × ℕ) (answer : Option R) (bytes : List ℕ) → AreBytes bytes → ReadsAs seen answer (Go bytes) → is_some answer ≡ is_go bytes
go-tells seen answer bytes b r =
    let e = is_go-exact bytes b in
    tells_as seen answer (Go bytes) (is_go bytes) r (λ t. let f = e.0 t in ((f.0, f.1), f.2)) (λ v f. e.1 (v.0, v.1, f))

-- The data of LIST_META_CONTEXT and SET_META_CONTEXT: `queries_of` gives exactly what has the form.
use Rattle.nbd_wire.proofs.Common.{◌≡◌, ℕ, zero, suc, ◌-◌, ◌<◌, ◌≤◌, ◌^◌, ◌==◌, ◌&&◌, List, [], ◌∷◌, ◌++◌, length, take, drop, Option, Some, None, Bool, true, false, nat_le, if◌then◌else◌, refl, sym, ◌∙◌, ap, arith, append_assoc, subst, All, IfSome, option_map, and_parts, eqb-true, le-leb, leb-false, leb-true, lt-leb, All-cons, All-head, All-nil, All-tail, none-some, same_Some, big_bytes, big_number-reads_back, AreBytes, Context, HasContextForm, HasListedForm, HasQueriesForm, with_lengths, are_queries, behind_name, context_of, is_listed, name_in, number_at, queries_of, ReadsAs}
use Rattle.nbd_wire.proofs.{HeadLemmas.with_next, ListedFormLemmas.{Counted, is_listed-exact, listed-only}, ListedReadLemmas.same_pair, NumberLemmas.{AreBytes-drop, number_at-lt}}

-- what stands behind the name that was counted out
pub behind : (name rest bytes : List ℕ) → HasListedForm name rest bytes → behind_name bytes ≡ rest
behind name rest bytes h = let c : Counted name rest bytes = listed-only name rest bytes h in ap (λ n. drop n (drop 4 bytes)) c.count ∙ c.rest_is

pub is_listed_one : (name rest bytes : List ℕ) → AreBytes bytes → HasListedForm name rest bytes → is_listed bytes ≡ true
is_listed_one name rest bytes b h = (is_listed-exact bytes b).1 (name, rest, h)

pub name_is : (name rest bytes : List ℕ) → AreBytes bytes → HasListedForm name rest bytes → name_in bytes ≡ name
name_is name rest bytes b h = grind (arith, listed-only, is_listed_one)

pub no_name : (bytes : List ℕ) → is_listed bytes ≡ false → name_in bytes ≡ []
no_name bytes e = ap (λ l. if l then take (number_at 0 4 bytes) (drop 4 bytes) else []) e

bytes_behind : (bytes : List ℕ) → AreBytes bytes → AreBytes (behind_name bytes)
bytes_behind bytes b = AreBytes-drop (number_at 0 4 bytes) (drop 4 bytes) (AreBytes-drop 4 bytes b)

abbrev Short : List ℕ → Type 0
Short query = length query < 2 ^ 32

-- bytes that are so many queries
pub record Queries (n : ℕ) (bytes : List ℕ) : Type 0 where
  pub queries : List (List ℕ)
  pub count : length queries ≡ n
  pub short : All Short queries
  pub is : bytes ≡ with_lengths queries

no_bytes : (bytes : List ℕ) → length bytes ≡ 0 → bytes ≡ []
no_bytes [] e = refl
no_bytes (x ∷ bytes) e = absurd (cc)

pub queries-found : (n : ℕ) (bytes : List ℕ) → AreBytes bytes → are_queries n bytes ≡ true → Queries n bytes
unfolding HasListedForm
queries-found zero bytes b e = record { queries = []; count = refl; short = All-nil Short; is = no_bytes bytes (eqb-true (length bytes) 0 e) }
queries-found (suc n) bytes b e =
    let p : (is_listed bytes ≡ true) × (are_queries n (behind_name bytes) ≡ true) = and_parts (is_listed bytes) (are_queries n (behind_name bytes)) e in
    let f = (is_listed-exact bytes b).0 p.0 in
    let q : Queries n (behind_name bytes) = queries-found n (behind_name bytes) (bytes_behind bytes b) p.1 in
    record {
      queries = f.0 ∷ q.queries;
      count = ap suc q.count;
      short = All-cons Short f.0 q.queries f.2.0 q.short;
      is = f.2.1 ∙ ap (λ r. big_bytes 4 (length f.0) ++ f.0 ++ r) (sym (behind f.0 f.1 bytes f.2) ∙ q.is);
    }

pub queries-only : (queries : List (List ℕ)) (bytes : List ℕ) → AreBytes bytes → All Short queries → bytes ≡ with_lengths queries → are_queries (length queries) bytes ≡ true
unfolding HasListedForm
queries-only [] bytes b s e = ap (λ (l : List ℕ). length l == 0) e
queries-only (query ∷ queries) bytes b s e =
    let form : HasListedForm query (with_lengths queries) bytes = (All-head Short query queries s, e) in
    (λ i. is_listed_one query (with_lengths queries) bytes b form i && are_queries (length queries) (behind_name bytes))
    ∙ queries-only queries (behind_name bytes) (bytes_behind bytes b) (All-tail Short query queries s) (behind query (with_lengths queries) bytes form)

-- what is read of data with this name and rest
abbrev counted : List ℕ → Option ℕ
counted rest = if nat_le 4 (length rest) && are_queries (number_at 0 4 rest) (drop 4 rest) then Some (number_at 0 4 rest) else None

abbrev answer : Bool → List ℕ → Option ℕ
answer listed rest = if listed && nat_le 4 (length rest) && are_queries (number_at 0 4 rest) (drop 4 rest) then Some (number_at 0 4 rest) else None

queries-answer : (bytes : List ℕ) → queries_of bytes ≡ answer (is_listed bytes) (behind_name bytes)
unfolding queries_of
queries-answer bytes = refl

pub queries-unnamed : (bytes : List ℕ) → is_listed bytes ≡ false → queries_of bytes ≡ None
queries-unnamed bytes e = queries-answer bytes ∙ ap (λ l. answer l (behind_name bytes)) e

pub queries-named : (name rest bytes : List ℕ) → AreBytes bytes → HasListedForm name rest bytes → queries_of bytes ≡ counted rest
queries-named name rest bytes b h = queries-answer bytes ∙ (λ i. answer (is_listed_one name rest bytes b h i) (behind name rest bytes h i))

pub queries-short : (name rest bytes : List ℕ) → AreBytes bytes → HasListedForm name rest bytes → length rest < 4 → queries_of bytes ≡ None
queries-short name rest bytes b h l = queries-named name rest bytes b h ∙ ap (λ t. if t && are_queries (number_at 0 4 rest) (drop 4 rest) then Some (number_at 0 4 rest) else None) (lt-leb 4 (length rest) l)

pub queries-long : (name rest bytes : List ℕ) (is : Bool) → AreBytes bytes → HasListedForm name rest bytes → 4 ≤ length rest → are_queries (number_at 0 4 rest) (drop 4 rest) ≡ is →
    queries_of bytes ≡ (if is then Some (number_at 0 4 rest) else None)
queries-long name rest bytes is b h l e = grind (arith, queries-named, le-leb)

-- what has the form is read
pub queries_of-form : (name : List ℕ) (count : ℕ) (bytes : List ℕ) → AreBytes bytes → HasQueriesForm name count bytes → (queries_of bytes ≡ Some count) × (name_in bytes ≡ name)
unfolding HasQueriesForm HasListedForm
queries_of-form name count bytes b h =
    let queries : List (List ℕ) = h.2.0 in
    let rest : List ℕ = big_bytes 4 count ++ with_lengths queries in
    let form : HasListedForm name rest bytes = (h.0, h.2.3 ∙ append_assoc (big_bytes 4 (length name) ++ name) (big_bytes 4 count) (with_lengths queries)) in
    let of_rest : AreBytes rest = subst AreBytes (behind name rest bytes form) (bytes_behind bytes b) in
    let long : 4 ≤ length rest = omega arith in
    let is : number_at 0 4 rest ≡ count = big_number-reads_back 4 count (with_lengths queries) (omega (arith, h.1)) in
    let all : are_queries (number_at 0 4 rest) (drop 4 rest) ≡ true =
    ap (λ n. are_queries n (drop 4 rest)) (is ∙ sym h.2.1) ∙ queries-only queries (drop 4 rest) (AreBytes-drop 4 rest of_rest) h.2.2 refl in
    (queries-long name rest bytes true b form long all ∙ ap Some is, name_is name rest bytes b form)

-- what is read has the form
pub queries_of-found : (bytes : List ℕ) (count : ℕ) → AreBytes bytes → queries_of bytes ≡ Some count → HasQueriesForm (name_in bytes) count bytes
unfolding HasQueriesForm HasListedForm
queries_of-found bytes count b e = go (is_listed bytes) refl
  where
    go : (l : Bool) → is_listed bytes ≡ l → HasQueriesForm (name_in bytes) count bytes
    go false l = absurd (let q : None ≡ Some count = sym (queries-unnamed bytes l) ∙ e in none-some count q)
    go true l =
        let f = (is_listed-exact bytes b).0 l in
        let name : List ℕ = f.0 in
        let rest : List ℕ = f.1 in
        by_length name rest f.2 (nat_le 4 (length rest)) refl (are_queries (number_at 0 4 rest) (drop 4 rest)) refl
      where
        by_length : (name rest : List ℕ) → HasListedForm name rest bytes → (t : Bool) → nat_le 4 (length rest) ≡ t → (a : Bool) → are_queries (number_at 0 4 rest) (drop 4 rest) ≡ a → HasQueriesForm (name_in bytes) count bytes
        by_length name rest h false t a p = absurd (none-some count (sym (queries-short name rest bytes b h (leb-false 4 (length rest) t)) ∙ e))
        by_length name rest h true t false p = absurd (none-some count (sym (queries-long name rest bytes false b h (leb-true 4 (length rest) t) p) ∙ e))
        by_length name rest h true t true p =
            let long : 4 ≤ length rest = leb-true 4 (length rest) t in
            let of_rest : AreBytes rest = subst AreBytes (behind name rest bytes h) (bytes_behind bytes b) in
            let is : number_at 0 4 rest ≡ count = same_Some (number_at 0 4 rest) count (sym (queries-long name rest bytes true b h long p) ∙ e) in
            let q : Queries (number_at 0 4 rest) (drop 4 rest) = queries-found (number_at 0 4 rest) (drop 4 rest) (AreBytes-drop 4 rest of_rest) p in
            let tail : rest ≡ big_bytes 4 count ++ with_lengths q.queries = with_next 0 4 rest (with_lengths q.queries) of_rest (omega (arith, long)) q.is ∙ ap (λ n. big_bytes 4 n ++ with_lengths q.queries) is in
            subst (λ n. HasQueriesForm n count bytes) (sym (name_is name rest bytes b h)) (
              h.0,
              omega (arith, number_at-lt 0 4 rest of_rest, is),
              (
                q.queries,
                q.count ∙ is,
                q.short,
                h.1 ∙ ap (λ r. big_bytes 4 (length name) ++ name ++ r) tail ∙ sym (append_assoc (big_bytes 4 (length name) ++ name) (big_bytes 4 count) (with_lengths q.queries)),
              ),
            )

-- a name and a count, and that they have the form
abbrev pub Asked : List ℕ → List ℕ × ℕ → Type 0
Asked bytes v = HasQueriesForm v.0 v.1 bytes

-- an answer that gives the count and the name that are read
pub queries-reads : {R : Type 0} (seen : R → List ℕ × ℕ) (answer : Option R) (bytes : List ℕ) → AreBytes bytes → option_map (λ r. (seen r).1) answer ≡ queries_of bytes → IfSome answer (λ r. (seen r).0 ≡ name_in bytes) → ReadsAs seen answer (Asked bytes)
queries-reads seen answer bytes b e n = grind (arith, none-some, queries_of-form, same_pair, queries_of-found, same_Some)

-- one query less
pub one_less : (n : ℕ) (bytes : List ℕ) → 0 < n → is_listed bytes ≡ true → are_queries n bytes ≡ are_queries (n - 1) (behind_name bytes)
one_less n bytes l e = grind arith

pub none_less : (n : ℕ) (bytes : List ℕ) → 0 < n → is_listed bytes ≡ false → are_queries n bytes ≡ false
none_less n bytes l e = grind arith

pub no_more : (n : ℕ) (bytes : List ℕ) → n ≡ 0 → are_queries n bytes ≡ (length bytes == 0)
no_more n bytes e = ap (λ k. are_queries k bytes) e

-- an id and a name, and that they have the form
abbrev pub Told : List ℕ → Context → Type 0
Told bytes context = HasContextForm context bytes

pub context-short : (bytes : List ℕ) → length bytes < 4 → context_of bytes ≡ None
unfolding context_of
context-short bytes l = ap (λ b. if b then Some (record { id = number_at 0 4 bytes; name = drop 4 bytes }) else None) (lt-leb 4 (length bytes) l)

pub context-long : (bytes : List ℕ) → 4 ≤ length bytes → context_of bytes ≡ Some (record { id = number_at 0 4 bytes; name = drop 4 bytes })
unfolding context_of
context-long bytes l = ap (λ b. if b then Some (record { id = number_at 0 4 bytes; name = drop 4 bytes }) else None) (le-leb 4 (length bytes) l)

-- an answer that gives the context that is read
pub context-reads : {R : Type 0} (seen : R → Context) (answer : Option R) (bytes : List ℕ) → AreBytes bytes → option_map seen answer ≡ context_of bytes → ReadsAs seen answer (Told bytes)
unfolding HasContextForm
context-reads seen answer bytes b e = grind (arith, none-some, context-long, nat_le, context-short, leb-false, leb-true, same_Some)

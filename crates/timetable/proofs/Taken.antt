-- What the reads so far have put into the buffer, where the bytes of the reader are known.
use Rattle.std.proofs.Common.{◌≡◌, ℕ, ◌+◌, ◌≤◌, List, [], ◌++◌, length, take, Option, Some, None, IfSome, sym, ap, ◌∙◌, subst, arith}
use Rattle.std.specs.Io.KnownBytes.{Consumes, IsAtEnd}
use Rattle.std.proofs.lemmas.List.{append_assoc, append-nil, length-take-le, take-append-le, take_all}
use Rattle.std.proofs.lemmas.Slice.{take-put_mid_below}
use Rattle.std.proofs.Math.Seq.{take-append-add}
use borrow.Rule.Slice.PartMut.{put_mid, post_of}

-- what is consumed twice is consumed in one
pub consumes_more : (a b c : Option (List ℕ)) (xs ys : List ℕ) → Consumes a b xs → Consumes b c ys → Consumes a c (xs ++ ys)
consumes_more None b c xs ys h k = tt
consumes_more (Some all) None c xs ys h k = elim h [ ]
consumes_more (Some all) (Some left) None xs ys h k = elim k [ ]
consumes_more (Some all) (Some left) (Some rest) xs ys h k = h ∙ ap (λ zs. xs ++ zs) k ∙ sym (append_assoc xs ys rest)

-- a full buffer has as many of the bytes as it has room for
pub full : (n : ℕ) (a b : Option (List ℕ)) (xs : List ℕ) → length xs ≡ n → Consumes a b xs → IfSome a (λ all. xs ≡ take n all)
full n None b xs size h = tt
full n (Some all) None xs size h = elim h [ ]
full n (Some all) (Some rest) xs size h = sym (ap (take n) h ∙ take-append-le n xs rest (omega (arith, size)) ∙ take_all n xs (omega (arith, size)))

-- where the reader is at its end, the buffer has all of them
ended : (n : ℕ) (a b : Option (List ℕ)) (xs : List ℕ) → length xs ≤ n → Consumes a b xs → IsAtEnd b → IfSome a (λ all. xs ≡ take n all)
ended n None b xs short h at = tt
ended n (Some all) None xs short h at = elim h [ ]
ended n (Some all) (Some rest) xs short h at = sym (ap (take n) (h ∙ ap (λ zs. xs ++ zs) at ∙ append-nil xs) ∙ take_all n xs short)

-- what is read behind the bytes that are there follows them
pub placed : (filled count most : ℕ) (buffer got : List ℕ) → filled ≤ length buffer → count ≤ length got → take (filled + count) (put_mid filled most buffer got) ≡ take filled buffer ++ take count got
placed filled count most buffer got within short =
    ap (λ k. take (k + count) (put_mid filled most buffer got)) (sym (length-take-le filled buffer within))
    ∙ take-append-add (take filled buffer) (got ++ post_of filled most buffer) count
    ∙ ap (λ xs. take filled buffer ++ xs) (take-append-le count got (post_of filled most buffer) short)

-- where nothing was read, the buffer has all that the reader gave
pub ended_at : (n filled most : ℕ) (buffer got : List ℕ) (a b c : Option (List ℕ)) → filled ≤ length buffer → filled ≤ n → Consumes a b (take filled buffer) → Consumes b c [] → IsAtEnd c
    → IfSome a (λ all. take filled (put_mid filled most buffer got) ≡ take n all)
ended_at n filled most buffer got a b c within short h k at =
    subst (λ xs. IfSome a (λ all. xs ≡ take n all)) (sym (take-put_mid_below filled most buffer got filled (omega arith) within))
    (ended n a c (take filled buffer) (omega (arith, length-take-le filled buffer within, short)) (subst (Consumes a c) (append-nil (take filled buffer)) (consumes_more a b c (take filled buffer) [] h k)) at)

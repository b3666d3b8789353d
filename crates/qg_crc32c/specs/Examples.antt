-- Checksums that are known from elsewhere, computed by the definition (RFC 3720, appendix B.4, has the texts of 32
-- bytes).
use Rattle.std.specs.Prelude.{◌≡◌, [], ◌∷◌, codes, replicate, refl}
use Rattle.qg_crc32c.specs.Crc32c.{crc32c_of, remainder, shift, shifts}

empty_text : crc32c_of [] ≡ 0
unfolding crc32c_of remainder
empty_text = refl

nine_digits : crc32c_of (codes "123456789") ≡ 0xE3069283
unfolding crc32c_of remainder shifts shift
nine_digits = refl

zeros : crc32c_of (replicate 32 0) ≡ 0x8A9136AA
unfolding crc32c_of remainder shifts shift
zeros = refl

ones : crc32c_of (replicate 32 0xFF) ≡ 0x62A8AB43
unfolding crc32c_of remainder shifts shift
ones = refl

ascending : crc32c_of (0 ∷ 1 ∷ 2 ∷ 3 ∷ 4 ∷ 5 ∷ 6 ∷ 7 ∷ 8 ∷ 9 ∷ 10 ∷ 11 ∷ 12 ∷ 13 ∷ 14 ∷ 15 ∷ 16 ∷ 17 ∷ 18 ∷ 19 ∷ 20 ∷ 21
    ∷ 22 ∷ 23 ∷ 24 ∷ 25 ∷ 26 ∷ 27 ∷ 28 ∷ 29 ∷ 30 ∷ 31 ∷ []) ≡ 0x46DD794E
unfolding crc32c_of remainder shifts shift
ascending = refl

descending : crc32c_of (31 ∷ 30 ∷ 29 ∷ 28 ∷ 27 ∷ 26 ∷ 25 ∷ 24 ∷ 23 ∷ 22 ∷ 21 ∷ 20 ∷ 19 ∷ 18 ∷ 17 ∷ 16 ∷ 15 ∷ 14 ∷ 13
    ∷ 12 ∷ 11 ∷ 10 ∷ 9 ∷ 8 ∷ 7 ∷ 6 ∷ 5 ∷ 4 ∷ 3 ∷ 2 ∷ 1 ∷ 0 ∷ []) ≡ 0x113FDB5C
unfolding crc32c_of remainder shifts shift
descending = refl

-- The bytes of one sector.
--
--   two_bytes, four_bytes           a number in so many bytes, high byte first
--   zeros                           so many bytes of 00
--   weighed                         the sum of the bytes, each times its weight; weights rise by one
--   body                            bytes 0 to 507 of a part: kind, part number, count, name, payload, and zeros to the end
--   sector                          the whole sector of a part: its body, and the sum of (offset + 1) × byte over it
--   unused_sector                   a sector that is not used
--   more_follows, last              the kinds of a part
--   name_of, count_of, payload_of   what stands in a sector where a part has its name, its count and its payload
--
-- A sector is a list of 512 numbers. Assumes nothing.
use Rattle.std.specs.Prelude.{ℕ, ◌+◌, ◌-◌, ◌*◌, ◌/◌, ◌%◌, List, [], ◌∷◌, ◌++◌, length, take, drop, replicate, slice_index}

abbrev pub two_bytes : ℕ → List ℕ
two_bytes n = (n / 256 % 256) ∷ (n % 256) ∷ []

abbrev pub four_bytes : ℕ → List ℕ
four_bytes n = (n / 16777216 % 256) ∷ (n / 65536 % 256) ∷ (n / 256 % 256) ∷ (n % 256) ∷ []

unfoldable pub zeros : ℕ → List ℕ
zeros n = replicate n 0

-- from this weight on
abbrev pub weighed : ℕ → List ℕ → ℕ
weighed weight [] = 0
weighed weight (byte ∷ bytes) = weight * byte + weighed (weight + 1) bytes

-- bytes 0 to 7
abbrev pub head : ℕ → ℕ → ℕ → List ℕ
head kind part count = (kind ∷ 0 ∷ []) ++ (two_bytes part ++ (two_bytes count ++ (0 ∷ 0 ∷ [])))

unfoldable pub body : ℕ → ℕ → List ℕ → List ℕ → List ℕ
body kind part name payload = head kind part (length payload) ++ (name ++ (payload ++ zeros (468 - length payload)))

unfoldable pub sector : ℕ → ℕ → List ℕ → List ℕ → List ℕ
sector kind part name payload = body kind part name payload ++ four_bytes (weighed 1 (body kind part name payload))

unfoldable pub unused_sector : List ℕ
unused_sector = zeros 512

abbrev pub more_follows : ℕ
more_follows = 1

abbrev pub last : ℕ
last = 2

abbrev pub name_of : List ℕ → List ℕ
name_of s = take 32 (drop 8 s)

abbrev pub count_of : List ℕ → ℕ
count_of s = slice_index s 4 * 256 + slice_index s 5

-- so many bytes of it
abbrev pub payload_of : ℕ → List ℕ → List ℕ
payload_of count s = take count (drop 40 s)

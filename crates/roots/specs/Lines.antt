-- The digits of a root from below: the lines that they start from, the guess at the first of them, and what is asked of both. n is the number whose root is asked, from 2 ^ 60 and below 2 ^ 62.
-- Definitions only. Assumes nothing.
use Rattle.std.specs.Prelude.{◌≡◌, ℕ, ◌+◌, ◌-◌, ◌*◌, ◌^◌, ◌<◌, ◌≤◌, List, [], ◌∷◌, slice_index}

-- One line near 4 * √n for each of the 48 values of n's leading six digits, 16 to 63: where it would be at 0, and, in the last twelve digits, its slope, 2 ^ 39 times as large. measure/roots/lines.py makes them.
abbrev pub lines : List ℕ
lines =
    0x8204_13f0 ∷ 0x85de_93d3 ∷ 0x89aa_d3b8 ∷ 0x8d3a_a3a0 ∷ 0x90d1_d389 ∷ 0x946d_b373 ∷ 0x97b1_9360 ∷ 0x9b1b_234d ∷
    0x9e4a_633c ∷ 0xa19c_132b ∷ 0xa4a7_d31c ∷ 0xa7d1_930d ∷ 0xaae1_d2ff ∷ 0xadd4_32f2 ∷ 0xb0a3_f2e6 ∷ 0xb38b_72da ∷
    0xb64a_92cf ∷ 0xb91f_d2c4 ∷ 0xbc0b_c2b9 ∷ 0xbec8_82af ∷ 0xc151_22a6 ∷ 0xc3ea_f29d ∷ 0xc696_e294 ∷ 0xc906_b28c ∷
    0xcb86_0284 ∷ 0xce15_827c ∷ 0xd0b5_9274 ∷ 0xd310_026d ∷ 0xd578_1266 ∷ 0xd7ee_325f ∷ 0xda16_0259 ∷ 0xdca8_0252 ∷
    0xdee8_824c ∷ 0xe134_d246 ∷ 0xe38d_5240 ∷ 0xe58b_823b ∷ 0xe7fb_9235 ∷ 0xea0e_0230 ∷ 0xec29_b22b ∷ 0xee4f_6226 ∷
    0xf07f_2221 ∷ 0xf2b9_321c ∷ 0xf488_c218 ∷ 0xf6d6_7213 ∷ 0xf8b5_e20f ∷ 0xfb17_d20a ∷ 0xfd08_5206 ∷ 0xff00_0202 ∷ []

-- the line of the leading digits p
abbrev pub line_of : ℕ → ℕ
line_of p = slice_index lines (p - 16)

-- g is a good guess at √(n / 64): the root lies from g - 1 to below g + 2
pub record Good (n g : ℕ) : Type 0 where
  pub from : 2 ^ 27 ≤ g
  pub below : g < 2 ^ 28
  pub low : 64 * ((g - 1) * (g - 1)) ≤ n
  pub high : n < 64 * ((g + 2) * (g + 2))

-- c is √(n * 2 ^ 44) from below, and by less than 3/2 even for n + 3: (c + 3/2)² is c² + 3 c + 9/4. By as much as `test` is more than `base`, n * 2 ^ 44 is more than c² + c.
pub record NearBelow (n c base test : ℕ) : Type 0 where
  pub low : c * c ≤ n * 2 ^ 44
  pub high : (n + 3) * 2 ^ 44 ≤ c * c + 3 * c + 2
  pub apart : n * 2 ^ 44 + base ≡ c * c + c + test

-- The canonical compositions of Unicode Standard Annex 15 in U+00C0 to U+017F. Document 02, "Accented names typed two ways".
use Rattle.std.specs.Prelude.{ℕ, Bool, true, false, not, ◌&&◌, ◌||◌, List, [], ◌∷◌, eqb, Option, Some, None}
use Rattle.text.specs.Bytes.{any}

-- A letter and a mark, and the letter that they compose to, as code points.
pub record Entry : Type 0 where
  pub letter : ℕ
  pub mark : ℕ
  pub composed : ℕ

abbrev pub entry : ℕ → ℕ → ℕ → Entry
entry l m c = record { letter = l; mark = m; composed = c }

-- "every letter of U+00C0 to U+017F that has a canonical decomposition", ascending
unfoldable pub table : List Entry
table =
    entry 65 768 192 ∷ entry 65 769 193 ∷ entry 65 770 194 ∷ entry 65 771 195 ∷ entry 65 776 196 ∷
    entry 65 778 197 ∷ entry 67 807 199 ∷ entry 69 768 200 ∷ entry 69 769 201 ∷ entry 69 770 202 ∷
    entry 69 776 203 ∷ entry 73 768 204 ∷ entry 73 769 205 ∷ entry 73 770 206 ∷ entry 73 776 207 ∷
    entry 78 771 209 ∷ entry 79 768 210 ∷ entry 79 769 211 ∷ entry 79 770 212 ∷ entry 79 771 213 ∷
    entry 79 776 214 ∷ entry 85 768 217 ∷ entry 85 769 218 ∷ entry 85 770 219 ∷ entry 85 776 220 ∷
    entry 89 769 221 ∷ entry 97 768 224 ∷ entry 97 769 225 ∷ entry 97 770 226 ∷ entry 97 771 227 ∷
    entry 97 776 228 ∷ entry 97 778 229 ∷ entry 99 807 231 ∷ entry 101 768 232 ∷ entry 101 769 233 ∷
    entry 101 770 234 ∷ entry 101 776 235 ∷ entry 105 768 236 ∷ entry 105 769 237 ∷ entry 105 770 238 ∷
    entry 105 776 239 ∷ entry 110 771 241 ∷ entry 111 768 242 ∷ entry 111 769 243 ∷ entry 111 770 244 ∷
    entry 111 771 245 ∷ entry 111 776 246 ∷ entry 117 768 249 ∷ entry 117 769 250 ∷ entry 117 770 251 ∷
    entry 117 776 252 ∷ entry 121 769 253 ∷ entry 121 776 255 ∷ entry 65 772 256 ∷ entry 97 772 257 ∷
    entry 65 774 258 ∷ entry 97 774 259 ∷ entry 65 808 260 ∷ entry 97 808 261 ∷ entry 67 769 262 ∷
    entry 99 769 263 ∷ entry 67 770 264 ∷ entry 99 770 265 ∷ entry 67 775 266 ∷ entry 99 775 267 ∷
    entry 67 780 268 ∷ entry 99 780 269 ∷ entry 68 780 270 ∷ entry 100 780 271 ∷ entry 69 772 274 ∷
    entry 101 772 275 ∷ entry 69 774 276 ∷ entry 101 774 277 ∷ entry 69 775 278 ∷ entry 101 775 279 ∷
    entry 69 808 280 ∷ entry 101 808 281 ∷ entry 69 780 282 ∷ entry 101 780 283 ∷ entry 71 770 284 ∷
    entry 103 770 285 ∷ entry 71 774 286 ∷ entry 103 774 287 ∷ entry 71 775 288 ∷ entry 103 775 289 ∷
    entry 71 807 290 ∷ entry 103 807 291 ∷ entry 72 770 292 ∷ entry 104 770 293 ∷ entry 73 771 296 ∷
    entry 105 771 297 ∷ entry 73 772 298 ∷ entry 105 772 299 ∷ entry 73 774 300 ∷ entry 105 774 301 ∷
    entry 73 808 302 ∷ entry 105 808 303 ∷ entry 73 775 304 ∷ entry 74 770 308 ∷ entry 106 770 309 ∷
    entry 75 807 310 ∷ entry 107 807 311 ∷ entry 76 769 313 ∷ entry 108 769 314 ∷ entry 76 807 315 ∷
    entry 108 807 316 ∷ entry 76 780 317 ∷ entry 108 780 318 ∷ entry 78 769 323 ∷ entry 110 769 324 ∷
    entry 78 807 325 ∷ entry 110 807 326 ∷ entry 78 780 327 ∷ entry 110 780 328 ∷ entry 79 772 332 ∷
    entry 111 772 333 ∷ entry 79 774 334 ∷ entry 111 774 335 ∷ entry 79 779 336 ∷ entry 111 779 337 ∷
    entry 82 769 340 ∷ entry 114 769 341 ∷ entry 82 807 342 ∷ entry 114 807 343 ∷ entry 82 780 344 ∷
    entry 114 780 345 ∷ entry 83 769 346 ∷ entry 115 769 347 ∷ entry 83 770 348 ∷ entry 115 770 349 ∷
    entry 83 807 350 ∷ entry 115 807 351 ∷ entry 83 780 352 ∷ entry 115 780 353 ∷ entry 84 807 354 ∷
    entry 116 807 355 ∷ entry 84 780 356 ∷ entry 116 780 357 ∷ entry 85 771 360 ∷ entry 117 771 361 ∷
    entry 85 772 362 ∷ entry 117 772 363 ∷ entry 85 774 364 ∷ entry 117 774 365 ∷ entry 85 778 366 ∷
    entry 117 778 367 ∷ entry 85 779 368 ∷ entry 117 779 369 ∷ entry 85 808 370 ∷ entry 117 808 371 ∷
    entry 87 770 372 ∷ entry 119 770 373 ∷ entry 89 770 374 ∷ entry 121 770 375 ∷ entry 89 776 376 ∷
    entry 90 769 377 ∷ entry 122 769 378 ∷ entry 90 775 379 ∷ entry 122 775 380 ∷ entry 90 780 381 ∷
    entry 122 780 382 ∷
    []

-- The first entry that passes a test.
unfoldable pub find : (Entry → Bool) → List Entry → Option Entry
find p [] = None
find p (e ∷ t) = elim (p e) [ true ↦ Some e | false ↦ find p t ]

-- The entry has this letter and this mark; it has this composed letter.
abbrev pub has_pair : ℕ → ℕ → Entry → Bool
has_pair l m e = eqb e.letter l && eqb e.mark m

abbrev pub has_composed : ℕ → Entry → Bool
has_composed c e = eqb e.composed c

-- The entry of a letter and a mark, and of a composed letter.
unfoldable pub composition : ℕ → ℕ → Option Entry
composition l m = find (has_pair l m) table

unfoldable pub decomposition : ℕ → Option Entry
decomposition c = find (has_composed c) table

-- "no pair and no letter stands in it twice"
abbrev pub clash : Entry → Entry → Bool
clash e f = has_pair f.letter f.mark e || has_composed f.composed e

unfoldable pub none_twice : List Entry → Bool
none_twice [] = true
none_twice (e ∷ t) = not (any (clash e) t) && none_twice t

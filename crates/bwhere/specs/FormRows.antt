-- Closed facts: the form that is told of each wrong line of a code text.
use Rattle.std.specs.Prelude.{◌≡◌, ℕ, List, [], ◌∷◌, ◌++◌, codes, map, refl}
use Rattle.bwhere.specs.Forms.{hint_text}

-- a function of three words, two labels, four string words and nine instructions, up to its first instruction
abbrev before_code : List ℕ
before_code = codes "F f 1 3 2 4 9\nt 0\nt 0\nw 1\nw 1\nw 1\nw 4\n"

abbrev hint_of : (line : List ℕ) → List ℕ
hint_of line = hint_text (before_code ++ line ++ codes "\n") 8

bounded : map hint_of
    (codes "a 3" ∷ codes "s 4" ∷ codes "l 2" ∷ codes "j 9" ∷ codes "z 9" ∷ codes "e 1 9" ∷ [])
    ≡ codes "; a k: k below 3, the words of the frame"
    ∷ codes "; s off: off below 4, the string words"
    ∷ codes "; l k: k below 2, the labels"
    ∷ codes "; j t, z t: t below 9, the instructions"
    ∷ codes "; j t, z t: t below 9, the instructions"
    ∷ codes "; e v t: v from 0 to 65535, t below 9, the instructions"
    ∷ []
bounded = refl

unbounded : map hint_of
    (codes "c 65536" ∷ codes "k 007" ∷ codes "i 4" ∷ codes "b **" ∷ codes "m &&" ∷ codes "x 1a" ∷ [])
    ≡ codes "; c n: n from 0 to 65535, without needless zeros"
    ∷ codes "; k n: n from 0 to 65535, without needless zeros"
    ∷ codes "; i d: d from 0 to 3"
    ∷ codes "; b op, m op: one of | & == != < <= > >= << >> - + % * /"
    ∷ codes "; b op, m op: one of | & == != < <= > >= << >> - + % * /"
    ∷ codes "; x name: one to eight letters, digits and _, the first no digit"
    ∷ []
unbounded = refl

-- each letter that has no number; no instruction
alone : map hint_of
    (codes "v 1" ∷ codes "w 1" ∷ codes "n 1" ∷ codes "h 1" ∷ codes "g 1" ∷ codes "r 1" ∷ codes "p 1" ∷ codes "t 1" ∷ [] ∷ [])
    ≡ codes "; the letter alone" ∷ codes "; the letter alone" ∷ codes "; the letter alone" ∷ codes "; the letter alone"
    ∷ codes "; the letter alone" ∷ codes "; the letter alone" ∷ codes "; the letter alone" ∷ [] ∷ [] ∷ []
alone = refl

-- a target, a string word, values of an external and of a vector, and lines that are none of these
before_the_code : map (λ text. hint_text text 2)
    (codes "F f 1 3 2 4 9\nt 9\n" ∷ codes "F f 1 3 0 4 9\nw 65536\n" ∷ codes "X n 1 5\ns 5\n" ∷ codes "V v 8 1 6\ns 6\n"
    ∷ codes "X n 1 5\nc 01\n" ∷ codes "F f 1 3 2 4 9\na 1\n" ∷ codes "F f 1 3 0 4 9\na 1\n" ∷ codes "X n 1 5\na 1\n" ∷ [])
    ≡ codes "; t n: n below 9, the instructions"
    ∷ codes "; w n: n from 0 to 65535, without needless zeros"
    ∷ codes "; s off: off below 5, the string words"
    ∷ codes "; s off: off below 6, the string words"
    ∷ codes "; c n: n from 0 to 65535, without needless zeros"
    ∷ [] ∷ [] ∷ [] ∷ []
before_the_code = refl

-- first lines of definitions, at the beginning and after a definition; and after the last line of a text
headers : map (λ text. hint_text text 2)
    (codes "B 2\nF f 1\n" ∷ codes "X n 0 0\nV v 0 0 0\n" ∷ codes "X n 0 0\nX m 0 2000\n" ∷ codes "E\nX m 0 0\n" ∷ [])
    ≡ (codes "; F name params frame labels strs instrs: params to 128 and to frame, frame to 32767, "
    ++ codes "labels to 128, strs to 1024, instrs to 4096")
    ∷ codes "; V name words ivals strs: words from 1 and from ivals to 32767, ivals and strs to 1024"
    ∷ codes "; X name ivals strs: ivals and strs to 1024"
    ∷ [] ∷ []
headers = refl

-- a line that ends as in a file of another system, whatever it is
carriage_returns : map (λ text. hint_text text 1) (codes "F f 0 0 0 0 1\r\n" ∷ codes "E\r\n" ∷ codes "\r\n" ∷ codes "E" ∷ [])
    ≡ codes "; the line ends with CR LF, and LF alone is wanted"
    ∷ codes "; the line ends with CR LF, and LF alone is wanted"
    ∷ codes "; the line ends with CR LF, and LF alone is wanted"
    ∷ [] ∷ []
carriage_returns = refl

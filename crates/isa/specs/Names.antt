use Rattle.std.specs.Prelude.{ℕ, List, [], ◌∷◌, codes, Option, Result}
use Rattle.std.specs.Option.{option_or, ok_or}
use Rattle.text.specs.Spelling.{first}
use denote.Enum.Declared.{tag_of}
use Rattle.isa.specs.contracts.name.Name.{the_type}
use Rattle.isa.specs.declared.letter.Letter.{Letter}
use Rattle.isa.specs.declared.letter.Letter.TheVariants as letter
use Rattle.isa.specs.declared.name.Name.{Name}
use Rattle.isa.specs.declared.name.UnknownName.{UnknownName}
use Rattle.isa.specs.declared.name.Name.TheVariants.{Ldb, Ld, Ldw, Ldx, Stb, St, Stw, Stx, Ad, Adw, Sb, Sbw, Adx, Sbx, Cp, Cpw, Cpx, Nw, Nx, Mx, Dx, Ldy, Sty, Ady, Sby, Ldz, Stz, Adz, Sbz, Bi, Bli, Ldl, Adl, Sbl, Cpl, Nl, Ml, Bitx, Bz, Bnz, Bn, Bnn, Bca, Bof, B, Bl, Mbs, Cpbs, Trbs, Scbs, Mhs, Rk, Hrk, Sfn, Sim, Sfm, Bitl}

-- how a name is written
abbrev pub spelled : Name → List ℕ
spelled Ldb = codes "LDB"
spelled Ld = codes "LD"
spelled Ldw = codes "LDW"
spelled Ldx = codes "LDX"
spelled Stb = codes "STB"
spelled St = codes "ST"
spelled Stw = codes "STW"
spelled Stx = codes "STX"
spelled Ad = codes "AD"
spelled Adw = codes "ADW"
spelled Sb = codes "SB"
spelled Sbw = codes "SBW"
spelled Adx = codes "ADX"
spelled Sbx = codes "SBX"
spelled Cp = codes "CP"
spelled Cpw = codes "CPW"
spelled Cpx = codes "CPX"
spelled Nw = codes "NW"
spelled Nx = codes "NX"
spelled Mx = codes "MX"
spelled Dx = codes "DX"
spelled Ldy = codes "LDY"
spelled Sty = codes "STY"
spelled Ady = codes "ADY"
spelled Sby = codes "SBY"
spelled Ldz = codes "LDZ"
spelled Stz = codes "STZ"
spelled Adz = codes "ADZ"
spelled Sbz = codes "SBZ"
spelled Bi = codes "BI"
spelled Bli = codes "BLI"
spelled Ldl = codes "LDL"
spelled Adl = codes "ADL"
spelled Sbl = codes "SBL"
spelled Cpl = codes "CPL"
spelled Nl = codes "NL"
spelled Ml = codes "ML"
spelled Bitx = codes "BITX"
spelled Bz = codes "BZ"
spelled Bnz = codes "BNZ"
spelled Bn = codes "BN"
spelled Bnn = codes "BNN"
spelled Bca = codes "BCA"
spelled Bof = codes "BOF"
spelled B = codes "B"
spelled Bl = codes "BL"
spelled Mbs = codes "MBS"
spelled Cpbs = codes "CPBS"
spelled Trbs = codes "TRBS"
spelled Scbs = codes "SCBS"
spelled Mhs = codes "MHS"
spelled Rk = codes "RK"
spelled Hrk = codes "HRK"
spelled Sfn = codes "SFN"
spelled Sim = codes "SIM"
spelled Sfm = codes "SFM"
spelled Bitl = codes "BITL"

-- the place of a name among all names, in the order of the enum, which tells names apart
abbrev pub rank : Name → ℕ
rank n = tag_of the_type n

abbrev pub names_a : List Name
names_a =
    Ldb ∷ Ld ∷ Ldw ∷ Ldx ∷ Stb ∷ St ∷ Stw ∷ Stx ∷ Ad ∷ Adw ∷ Sb ∷ Sbw ∷ Adx ∷ Sbx ∷ Cp ∷ Cpw ∷ Cpx
    ∷ Nw ∷ Nx ∷ Mx ∷ Dx ∷ Ldy ∷ Sty ∷ Ady ∷ Sby ∷ Ldz ∷ Stz ∷ Adz ∷ Sbz ∷ Bi ∷ Bli ∷ []

abbrev pub names_l : List Name
names_l = Ldl ∷ Adl ∷ Sbl ∷ Cpl ∷ Nl ∷ Ml ∷ Bitx ∷ Bz ∷ Bnz ∷ Bn ∷ Bnn ∷ Bca ∷ Bof ∷ []

abbrev pub names_b : List Name
names_b = B ∷ Bl ∷ []

-- the names that stand in no book
abbrev pub fixed_names : List Name
fixed_names = Mbs ∷ Cpbs ∷ Trbs ∷ Scbs ∷ Mhs ∷ Rk ∷ Hrk ∷ Sfn ∷ Sim ∷ Sfm ∷ Bitl ∷ []

-- the names that a letter has in a code book
abbrev pub names_of : Letter → List Name
names_of letter.A = names_a
names_of letter.L = names_l
names_of letter.B = names_b

-- the name of a letter that is spelled so
unfoldable pub name_under : Letter → List ℕ → Option Name
name_under l s = first spelled (names_of l) s

-- the fixed name that is spelled so
unfoldable pub fixed_name_of : List ℕ → Option Name
fixed_name_of s = first spelled fixed_names s

-- the name that is spelled so, of all
abbrev pub name_of : List ℕ → Option Name
name_of s =
    option_or (option_or (option_or (name_under letter.A s) (name_under letter.L s)) (name_under letter.B s))
    (fixed_name_of s)

-- the same, or that there is none
abbrev pub name_read : List ℕ → Result Name UnknownName
name_read s = ok_or (name_of s) (record {})

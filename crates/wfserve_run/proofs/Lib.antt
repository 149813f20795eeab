mod LoadLemmas

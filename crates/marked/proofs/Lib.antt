mod Marked
